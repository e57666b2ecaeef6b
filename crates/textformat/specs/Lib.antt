-- The text sheet: numbers in decimal digits, lines and fields, what a text answers, and the text of a sheet.
pub mod Numerals
pub mod Lines
pub mod TextSheet
pub mod TextTrips
