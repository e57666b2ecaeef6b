-- The window is checked first, then the task.
use Rattle.refusal.proofs.PassedOn.{passed_on}
use native.Mathlib.Omega.{arith}
use Rattle.monitor.proofs.WindowLaws.{usable_of, task_window, task_missing, task_there}
use Rattle.monitor.proofs.check_task.Goals as goal

pub returns-in_err-check_window : goal.returns-in_err-check_window
returns-in_err-check_window c = passed_on _ _ c.from_residual.ensures.1 (task_window _ _ _ c.in_err-check_window.ensures)

pub bounds-window-0 : goal.bounds-window-0
bounds-window-0 c =
    let u = usable_of _ c.in_ok-check_window.ensures in
    omega (arith, u.long)

pub returns-then-window-task : goal.returns-then-window-task
returns-then-window-task c = task_missing _ _ c.in_ok-check_window.ensures c.if-window-task.true

pub returns : goal.returns
returns c = task_there _ _ c.in_ok-check_window.ensures (omega (arith, c.if-window-task.false))
