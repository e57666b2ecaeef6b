-- Every small trace (document 02, R-12): the list of them, what a call on it answers, and what the list is.
pub mod SmallTraces
pub mod SmallCalls
pub mod EveryTrace
