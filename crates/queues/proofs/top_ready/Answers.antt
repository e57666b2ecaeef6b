use mathlib.Core.Path.{sym, ◌∙◌}
use native.Mathlib.Omega.{arith}
use Rattle.queues.proofs.SearchedLaws.{passed_none, passed_next, passed_here, passed_all}
use Rattle.queues.proofs.top_ready.Goals as goal

pub loop-i-init : goal.loop-i-init
loop-i-init c = passed_none _ _ _ (omega arith)

pub returns-then-may_run : goal.returns-then-may_run
returns-then-may_run c =
    passed_here _ _ _ _ c.loop-i.invariant c.loop-i-test.true
    (sym c.may_run.ensures ∙ c.if-may_run.true)

pub loop-i-preserved : goal.loop-i-preserved
loop-i-preserved c =
    passed_next _ _ _ _ c.loop-i.invariant c.loop-i-test.true
    (sym c.may_run.ensures ∙ c.if-may_run.false)

pub returns : goal.returns
returns c = passed_all _ _ _ _ c.loop-i.invariant c.loop-i-test.false
