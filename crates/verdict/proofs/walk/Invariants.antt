-- The walk over q with the search for W(q): the outer invariant says that no q so far has stopped it and what has counted for them,
-- the inner one how far the search is, start by start of the frame.
use Prim.Native.Nat.{◌+◌, ◌-◌, ◌*◌}
use mathlib.Core.Path.{◌≡◌}
use Rattle.model.specs.Choice.{column}
use Rattle.frame.specs.Starts.{start_at}
use Rattle.frame.specs.WindowColumns.{frame_in, BeginsAt, supply_lent}
use Rattle.demand.specs.Columns.{columns_lent}
use Rattle.verdict.specs.Walking.{tasks_in}
use Rattle.verdict.proofs.VerdictWalk.{Walk, Find}
use Rattle.verdict.proofs.walk.Given as goal

abbrev pub invariant-find : goal.invariant-find
invariant-find l =
    Find (tasks_in (supply_lent l.supply) (columns_lent l.columns) l.jitter l.deadline) (column l.keeps) l.task l.q l.initial.evaluations l.evaluations l.n l.w l.t
    × BeginsAt (supply_lent l.supply) l.at l.before
    × (l.at ≡ start_at (frame_in (supply_lent l.supply)) l.n)

abbrev pub decreases-find : goal.decreases-find
decreases-find l = (l.starts - l.n) * 10000002 + (10000001 - l.t)

abbrev pub invariant-walk : goal.invariant-walk
invariant-walk l = Walk (tasks_in (supply_lent l.supply) (columns_lent l.columns) l.jitter l.deadline) (column l.keeps) l.task l.q l.best l.evaluations

abbrev pub decreases-walk : goal.decreases-walk
decreases-walk l = 10000001 - l.q
