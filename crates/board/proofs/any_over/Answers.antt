use native.Mathlib.Omega.{arith}
use Rattle.board.proofs.OverLaws.{passing_none, passing_next, passing_here, passing_all}
use Rattle.board.proofs.any_over.Goals as goal

pub loop-i-init : goal.loop-i-init
loop-i-init c = passing_none _ _ _ c.requires

pub returns-then-t-column : goal.returns-then-t-column
returns-then-t-column c = passing_here _ _ _ _ c.loop-i.invariant c.loop-i-test.true (omega arith)

pub loop-i-preserved : goal.loop-i-preserved
loop-i-preserved c = passing_next _ _ _ _ c.loop-i.invariant c.loop-i-test.true (omega arith)

pub returns : goal.returns
returns c = passing_all _ _ _ _ c.loop-i.invariant c.loop-i-test.false
