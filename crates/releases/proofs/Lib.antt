-- Laws of the check of a list of releases.
pub mod ReleaseLaws
