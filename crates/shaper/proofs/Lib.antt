-- Laws of the gap, of ready ticks, of a task's history and of the shaper's state. From the ground up.
pub mod GapLaws
pub mod ReadyLaws
pub mod History
pub mod ShaperLaws
