use mathlib.Core.Path.{refl}
use native.Mathlib.Omega.{arith}
use Rattle.taskset.proofs.FilledLaws.{filled_none, filled_next}
use Rattle.rows.proofs.RowLaws.{cleaned_all}
use Rattle.rows.proofs.cleaned.Goals as goal

pub loop-i-init : goal.loop-i-init
loop-i-init c = (omega arith, omega arith, filled_none _ _ refl)

pub loop-i-preserved : goal.loop-i-preserved
loop-i-preserved c = (omega arith, omega arith, filled_next _ _ _ _ c.loop-i.invariant.2 (omega arith) refl)

pub returns : goal.returns
returns c = cleaned_all c.args.s _ _ c.loop-i.invariant.1 c.loop-i.invariant.2 c.loop-i-test.false
