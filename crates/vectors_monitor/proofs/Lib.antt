-- Laws that the proofs of this crate's functions use.
pub mod CallLaws
