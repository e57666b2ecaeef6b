-- The releases below i are written, and their records are short.
use Prim.Native.Nat.{◌+◌, ◌*◌}
use Rattle.reader.specs.Reader.{Putting}
use Rattle.reader.proofs.put_shorts.Given as goal

abbrev pub invariant-loop-i : goal.invariant-loop-i
invariant-loop-i l = Putting l.f l.start l.count l.initial.task l.initial.tick l.initial.cost l.task l.tick l.cost (l.start + 10 * l.i) l.i
