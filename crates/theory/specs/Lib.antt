-- The facts of a run of any jobs, and windows of ticks in it.
pub mod Facts
pub mod Windows
