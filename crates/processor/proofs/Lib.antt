-- Runs of a list on any processor: demand, limit, share and fits; a bound of every finish. From the ground up.
pub mod SamePlace
pub mod FinishBound
pub mod JobLaws
pub mod FitsOnProcessor
pub mod LimitShareOnProcessor
pub mod BoardDemand
pub mod ProcessorDemandLaws
