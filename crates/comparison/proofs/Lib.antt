-- Laws of the comparisons. From the ground up.
pub mod CompareLaws
pub mod SheetTestLaws
pub mod OfferTestLaws
