-- The loop has made the choice of the tasks above i: see `Choosing`.
use Rattle.frame.specs.WindowColumns.{frame_in, supply_lent}
use Rattle.choice.proofs.ChoosingLaws.{Choosing}
use Rattle.choice.proofs.choices_of.Given as goal

abbrev pub invariant-loop-i : goal.invariant-loop-i
invariant-loop-i l = Choosing l.extent l.s (frame_in (supply_lent l.lent_supply)) l.lent_columns.loads.now l.lent_columns.periods.now l.keep l.worst l.evaluations l.i
