-- The two contracts give the same refusal and the same columns.
pub mod AgreementLaws
