-- Laws of the factor.
pub mod FactorLaws
