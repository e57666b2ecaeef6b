-- The loop has summed the terms of the tasks below j.
use Rattle.demand.proofs.FlatColumnLaws.{Summed}
use Rattle.demand.proofs.above_load.Given as goal

abbrev pub invariant-loop-j : goal.invariant-loop-j
invariant-loop-j l = Summed l.columns.loads.now l.columns.periods.now l.keeps l.n l.t l.j l.sum
