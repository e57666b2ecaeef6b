-- The releases below i are written, the first of them before the loop.
use Rattle.reader.specs.Reader.{Putting}
use Rattle.reader.proofs.put_rest.Given as goal

abbrev pub invariant-loop-i : goal.invariant-loop-i
invariant-loop-i l = Putting l.f l.start l.count l.initial.task l.initial.tick l.initial.cost l.task l.tick l.cost l.at l.i
