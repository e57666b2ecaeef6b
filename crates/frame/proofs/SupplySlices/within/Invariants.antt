-- The loop has summed the ticks of the windows below k.
use Rattle.frame.proofs.ColumnLaws.{Summed}
use Rattle.frame.proofs.SupplySlices.within.Given as goal

abbrev pub invariant-loop-k : goal.invariant-loop-k
invariant-loop-k l = Summed l.self.first.now l.self.size.now l.self.count l.x l.k l.sum
