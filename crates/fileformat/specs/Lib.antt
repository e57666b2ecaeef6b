-- The file: numbers as bytes, records, and reading and writing of a whole file.
pub mod Numbers
pub mod Records
pub mod File
pub mod FileCalls
pub mod RoundTrips
pub mod OldFiles
pub mod SameWrites
