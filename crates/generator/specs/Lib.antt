-- The generator of the small traces: what its functions answer.
pub mod Generator
