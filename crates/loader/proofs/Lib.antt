-- Laws of the loader, from the ground up.
pub mod TakenLaws
pub mod FeedLaws
pub mod PieceLaws
pub mod SeenLaws
pub mod LoadLaws
pub mod OpenLaws
