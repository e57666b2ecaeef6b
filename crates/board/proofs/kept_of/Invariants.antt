-- The first i slots hold the first i kept jitters.
use Prim.Native.Nat.{◌≤◌}
use Rattle.model.specs.Slots.{Holds}
use Rattle.model.specs.Choice.{column}
use Rattle.board.proofs.kept_of.Given as goal

abbrev pub invariant-loop-i : goal.invariant-loop-i
invariant-loop-i l = (l.i ≤ l.count) × Holds (column l.p.keep) l.i 32 l.kept
