-- The loop has summed the loads of the tasks below j.
use Rattle.demand.proofs.FlatColumnLaws.{Once}
use Rattle.demand.proofs.once_each.Given as goal

abbrev pub invariant-loop-j : goal.invariant-loop-j
invariant-loop-j l = Once l.loads l.n l.j l.sum
