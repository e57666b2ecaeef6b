-- The loader's state, what each byte does to it, and what a loader promises.
pub mod Loader
pub mod Pieces
