-- The loop has read the numbers below i.
use Prim.Native.Nat.{◌+◌}
use lib.ListN.{get_or}
use Rattle.rows.proofs.FillLaws.{Read}
use Rattle.rows.proofs.numbers_from.Given as goal

abbrev pub invariant-loop-i : goal.invariant-loop-i
invariant-loop-i l = Read (λ j. get_or l.row (l.start + j) 0) 32 l.column l.i
