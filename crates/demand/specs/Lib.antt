-- Arrival counts, demand and W(q): what the functions of this crate take and answer.
pub mod Columns
pub mod ArrivalAnswer
pub mod Searching
pub mod Seeking
pub mod TriedList
