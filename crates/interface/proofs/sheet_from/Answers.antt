use mathlib.Core.Path.{refl}
use native.Mathlib.Omega.{arith}
use Rattle.interface.proofs.InterfaceLaws.{entries_none, entries_next, entries_sheet}
use Rattle.interface.proofs.sheet_from.Goals as goal

pub loop-i-init : goal.loop-i-init
loop-i-init c = entries_none _ _ _ (omega (arith, c.min-used.ensures)) refl

pub loop-i-preserved : goal.loop-i-preserved
loop-i-preserved c = entries_next _ _ _ _ _ c.loop-i.invariant c.loop-i-test.true c.task_at-t.ensures

pub returns : goal.returns
returns c = entries_sheet _ _ _ _ _ _ c.loop-i.invariant c.min-used.ensures c.loop-i-test.false
