use lib.ListN.{length-set}
use native.Mathlib.Omega.{arith}
use Rattle.rows.proofs.BlockLaws.{written_none}
use Rattle.rows.proofs.RowLaws.{windows_next, windows_all}
use Rattle.rows.proofs.put_windows.Goals as goal

pub loop-k-init : goal.loop-k-init
loop-k-init c = written_none _ _ _ _ _ (omega arith)

pub bounds-row-k-in-loop-k : goal.bounds-row-k-in-loop-k
bounds-row-k-in-loop-k c = simp length-set (omega arith)

pub loop-k-preserved : goal.loop-k-preserved
loop-k-preserved c = windows_next _ _ _ _ _ _ c.loop-k.invariant c.loop-k-test.true c.window_below-w.ensures

pub returns : goal.returns
returns c = windows_all _ _ _ _ _ c.requires.0 c.loop-k.invariant c.loop-k-test.false
