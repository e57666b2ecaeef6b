-- The job goes to the slots of the next place, and the count goes on.
use Rattle.refusal.proofs.PassedOn.{passed_on}
use native.Mathlib.Omega.{arith}
use lib.ListN.{length-set}
use Rattle.monitor.specs.Layout.{with_job}
use Rattle.monitor.proofs.WindowLaws.{task_of_lem, job_refused, job_taken}
use Rattle.monitor.proofs.take_job.Goals as goal

pub returns-in_err-check_task : goal.returns-in_err-check_task
returns-in_err-check_task c =
    let e = c.in_err-check_task.ensures in (record {
      code = passed_on _ _ c.from_residual.ensures.1 e;
      slots = job_refused _ _ _ e;
    })

pub bounds-window-1 : goal.bounds-window-1
bounds-window-1 c = omega (arith, (task_of_lem _ _ c.in_ok-check_task.ensures).0.long)

pub bounds-window-place : goal.bounds-window-place
bounds-window-place c = omega (arith, (task_of_lem _ _ c.in_ok-check_task.ensures).0.long)

pub bounds-window-place-2 : goal.bounds-window-place-2
bounds-window-place-2 c = simp length-set (omega (arith, (task_of_lem _ _ c.in_ok-check_task.ensures).0.long))

pub bounds-window-1-2 : goal.bounds-window-1-2
bounds-window-1-2 c = simp length-set (omega (arith, (task_of_lem _ _ c.in_ok-check_task.ensures).0.long))

pub returns : goal.returns
unfolding with_job
returns c =
    let a = c.args in
    let e = c.in_ok-check_task.ensures in
    (record {
      code = e;
      slots = rw c.counted_on.ensures (job_taken a.window.now (record { task = a.task; response = a.response }) e);
    })
