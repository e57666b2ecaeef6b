-- Runs of a list on any processor: demand and supply, the claims of demand 3, and a bound of every finish of the run.
pub mod ProcessorDemand
pub mod ProcessorClaims
pub mod FinishBound
