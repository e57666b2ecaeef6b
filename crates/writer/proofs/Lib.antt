-- Laws of the writer.
pub mod StoreLaws
pub mod PartLaws
pub mod WriteLaws
