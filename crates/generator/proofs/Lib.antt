-- Laws of the generator. From the ground up.
pub mod FloorLaws
pub mod LeftLaws
pub mod TraceRowLaws
pub mod DeeperLaws
pub mod ByCountLaws
