-- Laws of the walk over q that finds the least K. From the ground up.
pub mod ChoiceStepLaws
pub mod VerdictOfKeepLaws
pub mod WorstPeakLaws
pub mod ChoiceWalkLaws
pub mod LeastLaws
pub mod WindowOfLaws
