-- Offers as the definitions see them.
pub mod Plans
