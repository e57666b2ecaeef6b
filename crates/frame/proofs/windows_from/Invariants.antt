-- The loop has filled the windows below k.
use Rattle.frame.proofs.RowLaws.{Filled}
use Rattle.frame.proofs.windows_from.Given as goal

abbrev pub invariant-loop-k : goal.invariant-loop-k
invariant-loop-k l = Filled l.row l.windows l.k
