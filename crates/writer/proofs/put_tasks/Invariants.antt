use Rattle.writer.proofs.StoreLaws.{TasksPut}
use Rattle.writer.proofs.put_tasks.Given as goal

abbrev pub invariant-loop-i : goal.invariant-loop-i
invariant-loop-i l = TasksPut l.s l.initial.out l.from l.count l.out l.at l.i
