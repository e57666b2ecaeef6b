-- The verdict of one task: what its call answers, and what its walk takes.
pub mod Walking
pub mod VerdictAnswer
