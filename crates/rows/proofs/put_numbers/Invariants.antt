-- The loop has written the numbers below i.
use Rattle.rows.proofs.BlockLaws.{Written}
use Rattle.rows.proofs.RowLaws.{cut_number}
use Rattle.rows.proofs.put_numbers.Given as goal

abbrev pub invariant-loop-i : goal.invariant-loop-i
invariant-loop-i l = Written l.initial.row l.start (cut_number l.column l.count) 1 32 l.row l.i
