use native.Mathlib.Omega.{arith}
use borrow.Author.Tests.{le-leb, lt-leb}
use Rattle.queues.proofs.SearchedLaws.{passed_none, passed_next, passed_here, passed_all}
use Rattle.jumps.proofs.top_started.Goals as goal

pub loop-i-init : goal.loop-i-init
loop-i-init c = passed_none _ _ _ (omega arith)

pub returns-then-since-i : goal.returns-then-since-i
returns-then-since-i c = passed_here _ _ _ _ c.loop-i.invariant c.loop-i-test.true (le-leb _ _ c.if-since-i.true)

pub loop-i-preserved : goal.loop-i-preserved
loop-i-preserved c = passed_next _ _ _ _ c.loop-i.invariant c.loop-i-test.true (lt-leb _ _ c.if-since-i.false)

pub returns : goal.returns
returns c = passed_all _ _ _ _ c.loop-i.invariant c.loop-i-test.false
