-- The loop's invariant is the walk: see `Walking`.
use Prim.Native.Nat.{◌-◌}
use Rattle.frame.specs.WindowColumns.{frame_in, supply_lent}
use Rattle.keeping.proofs.LeastLaws.{Walking}
use Rattle.keeping.proofs.least_keep.Given as goal

abbrev pub invariant-loop-window : goal.invariant-loop-window
invariant-loop-window l = Walking (frame_in (supply_lent l.supply)) l.columns.loads.now l.columns.periods.now l.keeps l.i l.jitter l.deadline l.q l.high l.evaluations

abbrev pub decreases-loop-window : goal.decreases-loop-window
decreases-loop-window l = 10000001 - l.q
