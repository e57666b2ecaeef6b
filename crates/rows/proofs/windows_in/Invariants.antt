-- The loop has read the windows below k.
use Rattle.rows.specs.Rows.{window_in}
use Rattle.rows.proofs.FillLaws.{Read}
use Rattle.rows.proofs.windows_in.Given as goal

abbrev pub invariant-loop-k : goal.invariant-loop-k
invariant-loop-k l = Read (window_in l.row) 16 l.windows l.k
