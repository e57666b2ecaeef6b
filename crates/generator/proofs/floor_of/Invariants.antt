-- The releases before p are looked at from the latest down.
use Rattle.generator.proofs.FloorLaws.{Raising}
use Rattle.generator.proofs.floor_of.Given as goal

abbrev pub invariant-loop-p : goal.invariant-loop-p
invariant-loop-p l = Raising l.t.period l.t.jitter l.i l.at l.task l.tick l.p l.f
