-- Five stores, one after the other.
use native.Mathlib.Omega.{arith}
use lib.ListN.{length-set}
use Rattle.interface.proofs.TaskNumberLaws.{five_set}
use Rattle.interface.proofs.put_task.Goals as goal

pub bounds-sheet-at-2 : goal.bounds-sheet-at-2
bounds-sheet-at-2 c = simp length-set (omega arith)

pub bounds-sheet-at-3 : goal.bounds-sheet-at-3
bounds-sheet-at-3 c = simp length-set (omega arith)

pub bounds-sheet-at-4 : goal.bounds-sheet-at-4
bounds-sheet-at-4 c = simp length-set (omega arith)

pub bounds-sheet-at-5 : goal.bounds-sheet-at-5
bounds-sheet-at-5 c = simp length-set (omega arith)

pub returns : goal.returns
returns c = rw (← c.mark_number.ensures) (five_set c.args.sheet.now c.args.at _ _ _ _ _)
