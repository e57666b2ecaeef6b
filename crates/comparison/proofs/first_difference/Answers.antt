use mathlib.Core.Path.{sym, ap, ◌∙◌}
use mathlib.Core.Bool.{not}
use Rattle.model.proofs.SearchLaws.{sought_none, sought_next}
use Rattle.comparison.proofs.CompareLaws.{ends_here, ends_all, entry_same}
use Rattle.comparison.proofs.first_difference.Goals as goal

pub loop-i-init : goal.loop-i-init
loop-i-init c = sought_none _ _

pub returns-then-ne : goal.returns-then-ne
returns-then-ne c = ends_here _ _ _ c.loop-i.invariant c.loop-i-test.true (ap not (sym (entry_same _ _)) ∙ sym c.ne.ensures ∙ c.if-ne.true)

pub loop-i-preserved : goal.loop-i-preserved
loop-i-preserved c = sought_next _ _ _ c.loop-i.invariant c.loop-i-test.true (ap not (sym (entry_same _ _)) ∙ sym c.ne.ensures ∙ c.if-ne.false)

pub returns : goal.returns
returns c = ends_all _ _ _ c.loop-i.invariant c.loop-i-test.false
