use mathlib.Core.Path.{refl}
use Rattle.rows.proofs.FillLaws.{read_none, read_next, read_all}
use Rattle.rows.proofs.numbers_from.Goals as goal

pub loop-i-init : goal.loop-i-init
loop-i-init c = read_none _ _ _ refl

pub loop-i-preserved : goal.loop-i-preserved
loop-i-preserved c = read_next _ _ _ _ _ c.loop-i.invariant c.loop-i-test.true c.number_at-x.ensures

pub returns : goal.returns
returns c = read_all _ _ _ _ c.loop-i.invariant c.loop-i-test.false
