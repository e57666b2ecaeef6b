-- The calls for C: what each answers, and how it ends.
pub mod Files
pub mod Texts
pub mod Runs
pub mod Codes
