-- The least kept jitter of one task: what the functions of this crate take and answer.
pub mod Keeping
