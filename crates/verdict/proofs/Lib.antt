-- Laws of the walk over q and of the response bound in signed numbers. From the ground up.
pub mod VerdictWalk
pub mod BestLaws
pub mod SignedLaws
pub mod ResponseLaws
pub mod VerdictWalkLaws
pub mod WalkableLaws
