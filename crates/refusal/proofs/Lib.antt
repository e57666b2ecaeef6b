pub mod PassedOn
pub mod ReasonNumbers
