-- The calls of a case.
pub mod CaseCalls
