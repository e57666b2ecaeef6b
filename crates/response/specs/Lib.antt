-- What a verdict says of its walk over q, and how it moves with the kept jitters.
pub mod VerdictSays
pub mod KeptOrder
