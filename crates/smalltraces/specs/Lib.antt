-- The calls on the small traces: what their answers mean.
pub mod SmallAnswers
