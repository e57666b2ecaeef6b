use mathlib.Core.Path.{refl}
use native.Mathlib.Omega.{arith}
use Rattle.model.proofs.SlotLaws.{holds_none, holds_next}
use Rattle.board.proofs.OverLaws.{holds_at}
use Rattle.board.proofs.kept_of.Goals as goal

pub loop-i-init : goal.loop-i-init
loop-i-init c = (omega arith, holds_none _ _)

pub loop-i-preserved : goal.loop-i-preserved
loop-i-preserved c = (omega arith, holds_next _ _ _ _ _ c.loop-i.invariant.1 (omega arith) refl)

pub returns : goal.returns
returns c = holds_at _ _ _ _ _ c.loop-i.invariant.1 (omega (arith, c.loop-i.invariant.0))
