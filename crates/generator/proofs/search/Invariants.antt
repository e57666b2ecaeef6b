-- Count after count: position p is what is left of it among the traces of n releases or more.
use Rattle.generator.proofs.ByCountLaws.{Searching}
use Rattle.generator.proofs.search.Given as goal

abbrev pub invariant-loop-n : goal.invariant-loop-n
invariant-loop-n l = Searching l.g l.releases l.position l.initial.task l.initial.tick l.initial.cost l.task l.tick l.cost l.left l.n
