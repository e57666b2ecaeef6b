-- A sheet with its choice, and a board, as rows of numbers for C.
pub mod Rows
pub mod RoundRows
