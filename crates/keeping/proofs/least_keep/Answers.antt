use Prim.Native.Nat.{◌+◌}
use native.Mathlib.Omega.{arith}
use Rattle.frame.specs.WindowColumns.{frame_in, supply_lent}
use Rattle.frame.proofs.ColumnLaws.{ruled_columns}
use Rattle.demand.proofs.FlatColumnLaws.{loads_of}
use Rattle.keeping.proofs.LeastLaws.{Stepping, walking_start, searched, walking_none, stepped, walking_step}
use Rattle.keeping.proofs.least_keep.Goals.{After-step_at}
use Rattle.keeping.proofs.least_keep.Goals as goal

-- what the step leaves
stepping
    : (c : After-step_at)
    → Stepping (frame_in (supply_lent c.args.supply.now)) c.args.columns.now.loads.now c.args.columns.now.periods.now c.args.keeps.now c.args.i c.args.jitter c.args.deadline c.loop-window.q
    (c.loop-window.evaluations + c.in_ok-window.window.tries) c.step_at.result
stepping c =
    walking_step _ _ _ _ _ _ _ c.loop-window.invariant.ruled c.loop-window.invariant.may _ _ _ c.loop-window.invariant _ _ c.in_ok-window.ensures _ c.step_at.ensures

pub once_each-once-requires : goal.once_each-once-requires
once_each-once-requires c = loads_of _ _ _ _ c.requires.walkable.columns.above

pub loop-window-init : goal.loop-window-init
loop-window-init c = walking_start _ _ _ _ _ _ _ (ruled_columns _ _ _ _ _ c.requires.supplies.columns) c.requires.walkable

pub window_of-requires : goal.window_of-requires
window_of-requires c =
    (record {
      searched = searched _ _ _ _ _ _ _ c.loop-window.invariant.ruled c.loop-window.invariant.may _ _ _ c.loop-window.invariant _ c.once_each-once.ensures;
      factored = c.requires.factored;
      supplies = c.requires.supplies;
    })

pub returns-in_err-window : goal.returns-in_err-window
returns-in_err-window c =
    rw c.from_residual.ensures
    (walking_none _ _ _ _ _ _ _ c.loop-window.invariant.ruled c.loop-window.invariant.may _ _ _ c.loop-window.invariant c.in_err-window.ensures)

pub overflow_add-evaluations : goal.overflow_add-evaluations
overflow_add-evaluations c = omega (arith, c.loop-window.invariant.few, c.loop-window.invariant.q_high, c.in_ok-window.ensures.small)

pub step_at-requires : goal.step_at-requires
step_at-requires c = stepped _ _ _ _ _ _ _ c.loop-window.invariant.ruled c.loop-window.invariant.may _ _ _ c.loop-window.invariant _ _ c.in_ok-window.ensures

pub returns-in-Fails : goal.returns-in-Fails
returns-in-Fails c = rw c.in-Fails.is at (stepping (goal.at.returns-in-Fails c).After-step_at)

pub returns-in-Stops : goal.returns-in-Stops
returns-in-Stops c = rw c.in-Stops.is at (stepping (goal.at.returns-in-Stops c).After-step_at)

pub loop-window-preserved : goal.loop-window-preserved
loop-window-preserved c = rw c.in-Next.is at (stepping (goal.at.loop-window-preserved c).After-step_at)
