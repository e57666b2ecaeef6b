-- Laws of arrival counts, of the demand and of the search for W(q). From the ground up.
pub mod ArrivalCountLaws
pub mod DemandLaws
pub mod ListLaws
pub mod SeekLaws
pub mod FlatColumnLaws
pub mod TaskCallLaws
pub mod SeekColumnLaws
pub mod TriedListLaws
