-- Laws of the text sheet, from the ground up.
pub mod NumeralLaws
pub mod LineLaws
pub mod TextTrips
pub mod TextLength
pub mod EarliestLine
pub mod RecordTrips
pub mod AnyNumbers
pub mod TextPlaces
