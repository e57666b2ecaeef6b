-- What each program prints for the bytes of a file.
pub mod Answers
pub mod RunByPlace
pub mod Listed
pub mod Tried
