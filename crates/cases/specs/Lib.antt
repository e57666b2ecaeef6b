-- What the blocks of a case mean.
pub mod Cases
