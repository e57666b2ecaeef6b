-- The checks refuse, or the task and its kept jitter are there to be read.
use mathlib.Core.Path.{◌≡◌, ap, ◌∙◌}
use mathlib.Core.Option.{none}
use native.Mathlib.Omega.{arith}
use Rattle.model.specs.Refusal.{answered}
use Rattle.model.specs.Checks.{refusal_of}
use Rattle.model.specs.Calls.{task_inputs, arrival_call}
use Rattle.model.proofs.OrderLaws.{answers, refuses}
use Rattle.refusal.proofs.PassedOn.{passed_answer}
use Rattle.taskset.specs.TaskSet.{view_of}
use Rattle.demand.proofs.TaskCallLaws.{Passed, passed_of}
use Rattle.demand.proofs.arrival_count.Goals.{In_ok-check_call}
use Rattle.demand.proofs.arrival_count.Goals as goal

fine
    : (c : In_ok-check_call)
    → none ≡ refusal_of (task_inputs (view_of c.args.s) c.args.task
    c.args.kept.now)
fine c = c.in_ok-check_call.ensures

passed
    : (c : In_ok-check_call)
    → Passed (view_of c.args.s) c.args.task c.args.kept.now
passed c =
    passed_of (view_of c.args.s) c.args.task c.args.kept.now
    (fine c)

pub offset_bounds-s-task : goal.offset_bounds-s-task
offset_bounds-s-task c = omega (arith, passed (goal.at.offset_bounds-s-task c).In_ok-check_call)

pub bounds-s-task : goal.bounds-s-task
bounds-s-task c = omega (arith, passed (goal.at.bounds-s-task c).In_ok-check_call)

pub offset_bounds-kept-task : goal.offset_bounds-kept-task
offset_bounds-kept-task c = omega (arith, passed (goal.at.offset_bounds-kept-task c).In_ok-check_call)

pub bounds-kept-task : goal.bounds-kept-task
bounds-kept-task c = omega (arith, passed (goal.at.bounds-kept-task c).In_ok-check_call)

pub arrivals-requires : goal.arrivals-requires
arrivals-requires c = ((passed (goal.at.arrivals-requires c).In_ok-check_call).valid.in_range_lem _ (passed (goal.at.arrivals-requires c).In_ok-check_call).known).period_low

pub returns-in_err-check_call : goal.returns-in_err-check_call
unfolding arrival_call
returns-in_err-check_call c =
    passed_answer _ _ _ c.from_residual.ensures.1
    (refuses (task_inputs (view_of c.args.s) c.args.task c.args.kept.now) _ _ c.in_err-check_call.ensures)

pub returns : goal.returns
unfolding arrival_call
returns c =
    ap answered c.arrivals.ensures ∙ answers
    (task_inputs (view_of c.args.s) c.args.task
    c.args.kept.now) _ (fine (goal.at.returns c).In_ok-check_call)
