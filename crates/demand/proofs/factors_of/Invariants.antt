-- The first j slots hold the factors of the first j periods.
use Prim.Native.Nat.{◌≤◌}
use Rattle.demand.specs.Columns.{Prepared}
use Rattle.demand.proofs.factors_of.Given as goal

abbrev pub invariant-loop-j : goal.invariant-loop-j
invariant-loop-j l = (l.j ≤ l.n) × Prepared l.periods l.j l.highs l.lows
