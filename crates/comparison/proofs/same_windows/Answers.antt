use mathlib.Core.Path.{sym, ◌∙◌}
use Rattle.model.proofs.SearchLaws.{sought_none, sought_next}
use Rattle.admission.specs.Boards.{window_differs}
use Rattle.comparison.proofs.CompareLaws.{nowhere_here, nowhere_all}
use Rattle.comparison.proofs.same_windows.Goals as goal

pub loop-k-init : goal.loop-k-init
loop-k-init c = sought_none _ _

pub returns-then-ne : goal.returns-then-ne
unfolding window_differs
returns-then-ne c = nowhere_here _ _ _ c.loop-k.invariant c.loop-k-test.true (sym c.ne.ensures ∙ c.if-ne.true)

pub loop-k-preserved : goal.loop-k-preserved
unfolding window_differs
loop-k-preserved c = sought_next _ _ _ c.loop-k.invariant c.loop-k-test.true (sym c.ne.ensures ∙ c.if-ne.false)

pub returns : goal.returns
returns c = nowhere_all _ _ _ c.loop-k.invariant c.loop-k-test.false
