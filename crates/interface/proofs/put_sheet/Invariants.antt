-- The loop has written the numbers of the entries below i.
use Rattle.interface.proofs.TaskNumberLaws.{Put}
use Rattle.interface.proofs.put_sheet.Given as goal

abbrev pub invariant-loop-i : goal.invariant-loop-i
invariant-loop-i l = Put l.initial.sheet l.s.tasks l.sheet l.i
