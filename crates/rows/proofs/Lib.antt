-- Laws of rows. From the ground up.
pub mod BlockLaws
pub mod FillLaws
pub mod RowLaws
pub mod ReadLaws
pub mod RoundRows
