use Prim.Native.Nat.{◌<◌}
use native.Mathlib.Omega.{arith}
use Rattle.model.specs.Limits.{max_tasks}
use Rattle.refusal.proofs.PassedOn.{passed}
use Rattle.loader.proofs.FeedLaws.{step_goes, step_broken, step_stops, step_few, step_pushes}
use Rattle.loader.proofs.step.Goals.{In_ok-check_task-in-Ends}
use Rattle.loader.proofs.step.Goals as goal

pub returns-in-Goes : goal.returns-in-Goes
returns-in-Goes c = step_goes _ _ _ _ c.in-Goes.ensures

pub returns-in-Broken : goal.returns-in-Broken
returns-in-Broken c = step_broken _ _ _ c.in-Broken.ensures

pub returns-in_err-check_task-in-Ends : goal.returns-in_err-check_task-in-Ends
returns-in_err-check_task-in-Ends c =
    step_stops _ _ _ _ c.in-Ends.ensures _ _ (passed _ _ c.from_residual.ensures.1) c.in_err-check_task-in-Ends.ensures

-- a task is taken
few : (c : In_ok-check_task-in-Ends) → c.args.tasks.now.count < max_tasks
few c = step_few c.args.tasks.now _ _ _ c.in-Ends.ensures c.in_ok-check_task-in-Ends.ensures

pub offset_bounds-tasks-n : goal.offset_bounds-tasks-n
offset_bounds-tasks-n c = omega (arith, few c)

pub bounds-tasks-n : goal.bounds-tasks-n
bounds-tasks-n c = few (goal.at.bounds-tasks-n c).In_ok-check_task-in-Ends

pub overflow_add-tasks : goal.overflow_add-tasks
overflow_add-tasks c = omega (arith, few (goal.at.overflow_add-tasks c).In_ok-check_task-in-Ends)

pub returns-in_ok-check_task-in-Ends : goal.returns-in_ok-check_task-in-Ends
returns-in_ok-check_task-in-Ends c = step_pushes _ _ _ _ c.in-Ends.ensures c.in_ok-check_task-in-Ends.ensures _ c.no_line.ensures
