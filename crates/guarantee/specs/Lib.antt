-- Demand 3: the statements. Each names the file in proofs/ that proves it.
pub mod Demand3
pub mod OnProcessor
pub mod Pickup
pub mod WholeFrame
pub mod Idle
pub mod RunBounds
pub mod ChoiceSafe
pub mod NoneSmaller
pub mod AnsweredCalls
pub mod BetweenCommits
