-- The test decides as the definition's does.
use borrow.Author.Tests.{lt-ltb, le-ltb}
use Rattle.verdict.specs.Walking.{better_of}
use Rattle.verdict.proofs.better.Goals as goal

pub returns-then-b-r : goal.returns-then-b-r
unfolding better_of
returns-then-b-r c = rw (better_of, lt-ltb _ _ c.if-b-r.true)

pub returns-else-b-r : goal.returns-else-b-r
unfolding better_of
returns-else-b-r c = rw (better_of, le-ltb _ _ c.if-b-r.false)
