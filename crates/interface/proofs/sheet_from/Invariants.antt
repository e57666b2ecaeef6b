-- The loop has filled the entries below i.
use Rattle.interface.proofs.InterfaceLaws.{Entries}
use Rattle.interface.proofs.sheet_from.Given as goal

abbrev pub invariant-loop-i : goal.invariant-loop-i
invariant-loop-i l = Entries l.sheet l.used l.tasks l.i
