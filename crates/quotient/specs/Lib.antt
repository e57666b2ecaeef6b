-- The factor of a period, and what can be divided with it.
pub mod Factor
