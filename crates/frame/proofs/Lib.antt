-- Laws of windows in a frame, from the ground up.
pub mod FrameCheckingLaws
pub mod WindowLaws
pub mod ReachedLaws
pub mod StartLaws
pub mod MeetLaws
pub mod WindowEnds
pub mod ColumnLaws
pub mod ReachLaws
pub mod RowLaws
