-- No window below k has the tick.
use Rattle.frame.proofs.ColumnLaws.{Outside}
use Rattle.frame.proofs.SupplySlices.in_some.Given as goal

abbrev pub invariant-loop-k : goal.invariant-loop-k
invariant-loop-k l = Outside l.self.first.now l.self.size.now l.self.count l.x l.k
