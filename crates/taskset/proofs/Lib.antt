-- Laws of task sets by value.
pub mod SameEntries
pub mod FilledLaws
