-- The bytes of the releases below i are counted.
use Rattle.writer.proofs.PartLaws.{Sized}
use Rattle.writer.proofs.counted_size.Given as goal

abbrev pub invariant-loop-i : goal.invariant-loop-i
invariant-loop-i l = Sized l.count l.tick l.size l.i
