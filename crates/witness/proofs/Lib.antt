-- Why the late list is a trace, legal, and late. From the ground up.
pub mod GapTimeLaws
pub mod MergeLaws
pub mod ScenarioLaws
pub mod LateRun
pub mod LateLaw
