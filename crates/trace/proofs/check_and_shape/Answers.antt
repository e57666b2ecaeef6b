-- The checks come first; the ready ticks are written where they pass.
use Rattle.refusal.proofs.PassedOn.{passed_on}
use Prim.Native.Nat.{◌≤◌, min}
use mathlib.Core.Path.{◌≡◌, refl, sym}
use mathlib.Core.Option.{none}
use native.Mathlib.Omega.{arith}
use lib.ListN.{length}
use Rattle.model.specs.Checks.{refusal_of}
use Rattle.taskset.specs.TaskSet.{view_of}
use Rattle.trace.specs.TraceCalls.{call_inputs}
use Rattle.model.proofs.OrderLaws.{column_kept}
use Rattle.trace.proofs.ListCallLaws.{listed_shapable, callable_of, ready_written_lem}
use Rattle.trace.proofs.check_and_shape.Goals.{In_ok-check_two}
use Rattle.trace.proofs.check_and_shape.Goals as goal

call_fine
    : (c : In_ok-check_two)
    → let a = c.args in
    none ≡ refusal_of (call_inputs (view_of a.s) a.kept.now a.list.now.count a.list.now.task.now a.list.now.tick.now a.list.now.cost.now (min (length a.ready.now) a.slots))
call_fine c = c.in_ok-check_two.ensures

pub returns-in_err-check_two : goal.returns-in_err-check_two
returns-in_err-check_two c =
    let e = c.from_residual.ensures.1 in
    (record {
      refusal = passed_on _ _ e c.in_err-check_two.ensures;
      ticks = column_kept _ _ _ _ (sym (passed_on _ _ e refl));
    })

pub fill_ready-requires : goal.fill_ready-requires
fill_ready-requires c =
    let a = c.args in
    let g = callable_of (view_of a.s) a.kept.now a.list.now.count a.list.now.task.now a.list.now.tick.now a.list.now.cost.now _ (call_fine (goal.at.fill_ready-requires c).In_ok-check_two) in
    let long : a.list.now.count ≤ length a.ready.now = omega (arith, g.slots_long) in
    (listed_shapable _ _ _ _ _ g.listed, g.kept_long, long)

pub returns : goal.returns
returns c =
    (record {
      refusal = call_fine (goal.at.returns c).In_ok-check_two;
      ticks = ready_written_lem _ _ _ _ _ _ _ _ _ refl (c.fill_ready.ensures _);
    })
