-- Laws of the file, and the two round trips. From the ground up.
pub mod StepLaws
pub mod WidthLaws
pub mod TaskSizeLaws
pub mod FilePlaces
pub mod NumberLaws
pub mod RecordLaws
pub mod OffsetLaws
pub mod Prefix
pub mod ReleasePlaces
pub mod RoundTrips
pub mod OldFileLaws
pub mod SheetLaws
pub mod RoundTripCalls
pub mod SameWriteLaws
