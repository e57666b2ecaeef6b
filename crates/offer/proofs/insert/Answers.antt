use Rattle.offer.proofs.AskLaws.{inserted_all}
use mathlib.Core.Path.{refl}
use native.Mathlib.Omega.{arith}
use Rattle.taskset.proofs.FilledLaws.{filled_none, filled_next}
use Rattle.offer.proofs.insert.Goals as goal

pub loop-i-init : goal.loop-i-init
loop-i-init c = (omega arith, omega arith, filled_none _ _ refl)

pub shifted-requires : goal.shifted-requires
shifted-requires c = (omega arith, omega arith)

pub loop-i-preserved : goal.loop-i-preserved
loop-i-preserved c = (omega arith, omega arith, filled_next _ _ _ _ c.loop-i.invariant.2 (omega arith) c.shifted.ensures)

pub returns : goal.returns
returns c = inserted_all c.args.s _ _ _ _ c.loop-i.invariant.0 c.loop-i.invariant.1 c.loop-i.invariant.2 (omega arith)
