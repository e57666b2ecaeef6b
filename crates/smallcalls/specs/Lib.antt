-- The calls on the small traces for C: what they answer, and how they end.
pub mod SmallWords
