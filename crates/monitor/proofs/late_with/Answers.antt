-- Late is a response over D.
use native.Mathlib.Omega.{arith}
use borrow.Author.Tests.{lt-ltb, le-ltb}
use Rattle.model.specs.Series.{on}
use Rattle.monitor.proofs.late_with.Goals as goal

pub returns-then-deadline-response : goal.returns-then-deadline-response
unfolding on
returns-then-deadline-response c = rw (lt-ltb _ _ c.if-deadline-response.true)

pub returns : goal.returns
unfolding on
returns c = rw (le-ltb _ _ c.if-deadline-response.false) (omega arith)
