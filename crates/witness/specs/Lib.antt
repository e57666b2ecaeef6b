-- The list of releases that a late verdict promises.
pub mod GapTimes
pub mod Merge
pub mod Scenario
pub mod LateList
