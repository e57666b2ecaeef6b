-- Laws of the calls on the small traces for C.
pub mod WordLaws
