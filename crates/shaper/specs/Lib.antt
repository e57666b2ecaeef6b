-- The state of the shaper, and document 01's ready ticks in words.
pub mod Shaper
pub mod ReadyTicks
