-- The loop has copied the windows below k.
use Rattle.frame.proofs.ColumnLaws.{Copied}
use Rattle.frame.proofs.columns_of.Given as goal

abbrev pub invariant-loop-k : goal.invariant-loop-k
invariant-loop-k l = Copied l.f l.k l.per l.first l.size
