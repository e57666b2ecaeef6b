-- The choice of kept jitters: what the functions of this crate take and answer.
pub mod Choices
pub mod Planned
