-- The releases below i are written.
use Rattle.fileformat.specs.Records.{width_in}
use Rattle.writer.proofs.PartLaws.{PartPut}
use Rattle.writer.proofs.put_part.Given as goal

abbrev pub invariant-loop-i : goal.invariant-loop-i
invariant-loop-i l = PartPut l.initial.out l.from l.first l.last (width_in l.long) l.task l.tick l.cost l.out l.at l.i
