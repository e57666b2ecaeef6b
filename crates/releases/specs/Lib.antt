pub mod Releases
pub mod Over
