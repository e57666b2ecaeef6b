-- The lines that the programs print.
pub mod Report
pub mod PutLine
