-- Laws of the calls for C: what their codes tell, what stands in the lent slices afterwards. From the ground up.
pub mod CodeLaws
pub mod ReadLaws
pub mod ReadEndLaws
pub mod WriteEndLaws
pub mod ColumnEndLaws
pub mod JumpEndLaws
pub mod ChoiceEndLaws
pub mod LoadEndLaws
