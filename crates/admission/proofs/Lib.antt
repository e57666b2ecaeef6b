-- Laws of ask and commit. From the ground up.
pub mod SameLaws
pub mod AskedLaws
pub mod SinceLaws
pub mod AcceptedLaws
pub mod PlaceLaws
