-- Laws of the small traces. From the ground up.
pub mod JoinedLaws
pub mod PairLaws
pub mod FollowLaws
pub mod GrownLaws
pub mod SmallLaws
pub mod EveryTraceLaws
pub mod EmptyLaws
pub mod PassLaws
pub mod SameTraces
pub mod CountLaws
pub mod FaultLaws
pub mod MemberLaws
pub mod PlaceLaws
