-- Ask first, then commit (document 02, R-11): what an ask, an opening and a commit answer.
pub mod Offers
pub mod Boards
pub mod Asked
