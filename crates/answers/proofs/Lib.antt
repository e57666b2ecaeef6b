-- Laws of the printed answers: what the programs hand from call to call. From the ground up.
pub mod AcceptedCallLaws
pub mod AnswerColumnLaws
pub mod AnswerLaws
pub mod ByPlaceLaws
pub mod ReplayLaws
pub mod LoadedTextLaws
pub mod SaidLaws
