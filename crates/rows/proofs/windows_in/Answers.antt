use mathlib.Core.Path.{refl}
use Rattle.rows.proofs.FillLaws.{read_none, read_next, read_all}
use Rattle.rows.proofs.windows_in.Goals as goal

pub loop-k-init : goal.loop-k-init
loop-k-init c = read_none _ _ _ refl

pub loop-k-preserved : goal.loop-k-preserved
loop-k-preserved c = read_next _ _ _ _ _ c.loop-k.invariant c.loop-k-test.true c.window_in-w.ensures

pub returns : goal.returns
returns c = read_all _ _ _ _ c.loop-k.invariant c.loop-k-test.false
