use mathlib.Core.Path.{refl}
use Rattle.frame.proofs.RowLaws.{filled_none, filled_next, filled_all}
use Rattle.frame.proofs.windows_from.Goals as goal

pub loop-k-init : goal.loop-k-init
loop-k-init c = filled_none _ _ refl

pub loop-k-preserved : goal.loop-k-preserved
loop-k-preserved c = filled_next _ _ _ _ c.loop-k.invariant c.loop-k-test.true c.window_at-w.ensures

pub returns : goal.returns
returns c = filled_all _ _ _ c.loop-k.invariant c.loop-k-test.false
