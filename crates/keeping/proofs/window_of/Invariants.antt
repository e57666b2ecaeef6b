-- The loop follows the search from start to start: see `Searching`.
use Prim.Native.Nat.{◌+◌, ◌-◌, ◌*◌}
use Rattle.frame.specs.WindowColumns.{supply_lent}
use Rattle.demand.specs.Columns.{columns_lent}
use Rattle.keeping.proofs.WindowOfLaws.{Searching}
use Rattle.keeping.proofs.window_of.Given as goal

abbrev pub invariant-loop-t : goal.invariant-loop-t
invariant-loop-t l = Searching (supply_lent l.supply) (columns_lent l.columns) l.keeps l.n l.once l.q l.own l.starts l.tally l.at l.before l.t l.w l.k l.tries

abbrev pub decreases-loop-t : goal.decreases-loop-t
decreases-loop-t l = (l.starts - l.k) * 10000002 + (10000001 - l.t)
