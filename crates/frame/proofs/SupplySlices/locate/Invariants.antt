-- The windows below k end before the tick.
use Rattle.frame.proofs.ColumnLaws.{Passed}
use Rattle.frame.proofs.SupplySlices.locate.Given as goal

abbrev pub invariant-loop-k : goal.invariant-loop-k
invariant-loop-k l = Passed l.self.size.now l.self.count l.r l.k l.left
