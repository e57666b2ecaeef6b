-- The loop has written the windows below k.
use Rattle.rows.proofs.BlockLaws.{Written}
use Rattle.rows.proofs.RowLaws.{cut_window}
use Rattle.rows.proofs.put_windows.Given as goal

abbrev pub invariant-loop-k : goal.invariant-loop-k
invariant-loop-k l = Written l.initial.row 230 (cut_window l.f l.count) 2 16 l.row l.k
