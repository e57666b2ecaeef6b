-- Laws of the calls on rows.
pub mod RowEndLaws
pub mod RowsStay
