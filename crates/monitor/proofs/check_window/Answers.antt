-- Each test is one of the checks, in their order.
use native.Mathlib.Omega.{arith}
use Rattle.monitor.proofs.WindowLaws.{window_short, window_empty, window_many, window_fine}
use Rattle.monitor.proofs.check_window.Goals as goal

pub returns-then-window-lt-SLOTS : goal.returns-then-window-lt-SLOTS
returns-then-window-lt-SLOTS c = window_short _ (omega arith)

pub returns-then-tasks-eq0 : goal.returns-then-tasks-eq0
returns-then-tasks-eq0 c = window_empty _ (omega arith) (omega arith)

pub returns-then-tasks : goal.returns-then-tasks
returns-then-tasks c = window_many _ (omega arith) (omega arith)

pub returns : goal.returns
returns c = window_fine _ (record { long = omega arith; some_task = omega arith; few_tasks = omega arith })
