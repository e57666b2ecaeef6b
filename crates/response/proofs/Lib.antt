-- Laws of the response-time analysis: arrival counts, loads, windows, bounds, verdicts and choices. From the ground up.
pub mod ArrivalLaws
pub mod BoundLaws
pub mod ChoiceLaws
pub mod LoadSums
pub mod WindowLaws
pub mod KeptLaws
pub mod PastStop
pub mod VerdictLaws
pub mod WalkEnds
pub mod PeakLaws
pub mod LessAboveLaws
pub mod LessOwnLaws
pub mod ChosenUnder
pub mod WorstLaws
