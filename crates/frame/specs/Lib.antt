-- Windows in a frame: what the functions of this crate take and answer.
pub mod FrameView
pub mod Starts
pub mod Reached
pub mod WindowColumns
