-- Laws of the calls on the small traces. From the ground up.
pub mod GridLaws
pub mod FindLaws
pub mod SmallEndLaws
