use mathlib.Core.Path.{sym, ◌∙◌}
use native.Mathlib.Omega.{arith}
use Rattle.queues.proofs.SearchedLaws.{passed_none, passed_next, passed_here, passed_all}
use Rattle.jumps.proofs.coming_of.Goals as goal

pub loop-p-init : goal.loop-p-init
loop-p-init c = passed_none _ _ _ (omega arith)

pub is_coming-requires : goal.is_coming-requires
is_coming-requires c =
    let r = c.requires in
    (c.loop-p-test.true, r.1, r.2)

pub returns-then-is_coming : goal.returns-then-is_coming
returns-then-is_coming c = passed_here _ _ _ _ c.loop-p.invariant c.loop-p-test.true (sym c.is_coming.ensures ∙ c.if-is_coming.true)

pub loop-p-preserved : goal.loop-p-preserved
loop-p-preserved c = passed_next _ _ _ _ c.loop-p.invariant c.loop-p-test.true (sym c.is_coming.ensures ∙ c.if-is_coming.false)

pub returns : goal.returns
returns c = passed_all _ _ _ _ c.loop-p.invariant c.loop-p-test.false
