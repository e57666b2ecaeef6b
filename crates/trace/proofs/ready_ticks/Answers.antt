-- The checks with the column's own slots for the other column too, and the ready ticks.
use Prim.Native.Nat.{ℕ, min}
use mathlib.Core.Path.{◌≡◌, ap, ◌∙◌}
use native.Mathlib.Omega.{arith}
use lib.ListN.{length}
use Rattle.model.specs.Checks.{refusal_of}
use Rattle.taskset.specs.TaskSet.{view_of}
use Rattle.refusal.specs.Refusal.{refusal_in}
use Rattle.trace.specs.TraceCalls.{call_inputs}
use Rattle.model.proofs.OrderLaws.{column_by}
use Rattle.trace.proofs.ready_ticks.Goals.{After-check_and_shape}
use Rattle.trace.proofs.ready_ticks.Goals as goal

-- the shorter of a length and itself
twice : (n : ℕ) → min n n ≡ n
twice n = omega arith

-- what the checks found
checks : (c : After-check_and_shape)
    → let a = c.args in
    refusal_in c.check_and_shape.result
    ≡ refusal_of (call_inputs (view_of a.s) a.kept.now a.list.now.count a.list.now.task.now a.list.now.tick.now a.list.now.cost.now (length a.ready.now))
checks c =
    let a = c.args in
    c.check_and_shape.ensures.refusal
    ∙ ap (λ x. refusal_of (call_inputs (view_of a.s) a.kept.now a.list.now.count a.list.now.task.now a.list.now.tick.now a.list.now.cost.now x)) (twice (length a.ready.now))

pub returns : goal.returns
returns c =
    (record {
      refusal = checks (goal.at.returns c).After-check_and_shape;
      ticks = column_by _ _ _ _ _ c.check_and_shape.ensures.ticks (checks (goal.at.returns c).After-check_and_shape);
    })
