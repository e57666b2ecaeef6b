-- Demand 3 and what follows from it, proved. From the ground up.
pub mod BoardRun
pub mod FitsOfVerdict
pub mod LateOfVerdict
pub mod LimitShareOfRun
pub mod OnProcessor
pub mod Demand3
pub mod ChoiceSafe
pub mod NoneSmaller
pub mod LowAbove
pub mod AnsweredCalls
pub mod ExactResponse
pub mod IdleLaws
pub mod RunBounds
pub mod PickupLaws
pub mod BetweenCommits
pub mod WholeFrame
