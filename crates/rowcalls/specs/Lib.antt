-- What the calls on rows promise of the rows.
pub mod RowsStay
