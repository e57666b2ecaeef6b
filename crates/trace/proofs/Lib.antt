-- Laws of a list by positions, of its ready ticks and of the trace check. From the ground up.
pub mod PositionLaws
pub mod ReadyAtLaws
pub mod StandingLaws
pub mod CloseWalkLaws
pub mod CloseLaws
pub mod LegalCheck
pub mod LegalLaws
pub mod ListCallLaws
pub mod ReadyFillLaws
