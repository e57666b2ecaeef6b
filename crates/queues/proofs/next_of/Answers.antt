use native.Mathlib.Omega.{arith}
use borrow.Author.Tests.{eq-eqb, ne_eqb}
use Rattle.queues.proofs.SearchedLaws.{passed_none, passed_next, passed_here, passed_all}
use Rattle.queues.proofs.next_of.Goals as goal

pub loop-p-init : goal.loop-p-init
loop-p-init c = passed_none _ _ _ (omega arith)

pub returns-then-task-p : goal.returns-then-task-p
returns-then-task-p c = passed_here _ _ _ _ c.loop-p.invariant c.loop-p-test.true (eq-eqb _ _ c.if-task-p.true)

pub loop-p-preserved : goal.loop-p-preserved
loop-p-preserved c = passed_next _ _ _ _ c.loop-p.invariant c.loop-p-test.true (ne_eqb _ _ c.if-task-p.false)

pub returns : goal.returns
returns c = passed_all _ _ _ _ c.loop-p.invariant c.loop-p-test.false
