-- Laws of the window: its ring, its checks, its counts, and what holds after any calls.
pub mod WindowLaws
pub mod OpenLaws
pub mod SameOpeningLaws
pub mod RingLaws
pub mod TallyLaws
pub mod ColumnLaws
pub mod PlaceLaws
pub mod AnyCallsLaws
