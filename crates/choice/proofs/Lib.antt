-- Laws of the choice, from task 0 down. From the ground up.
pub mod ChoiceCallLaws
pub mod NextChoiceLaws
pub mod ChoosingLaws
pub mod DecideLaws
pub mod PlannedLaws
