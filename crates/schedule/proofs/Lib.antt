-- Laws of the run tick by tick: the state from tick to tick, and the columns.
pub mod TickLaws
pub mod FinishFillLaws
