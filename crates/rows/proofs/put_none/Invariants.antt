-- The loop has written the numbers below i.
use Rattle.rows.proofs.BlockLaws.{Written}
use Rattle.rows.proofs.RowLaws.{blank}
use Rattle.rows.proofs.put_none.Given as goal

abbrev pub invariant-loop-i : goal.invariant-loop-i
invariant-loop-i l = Written l.initial.row 227 blank 1 35 l.row l.i
