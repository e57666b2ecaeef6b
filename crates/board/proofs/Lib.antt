-- Laws of opening and commit. From the ground up.
pub mod OverLaws
pub mod CommitLaws
