-- Where the checks pass, the tally is the answer.
use mathlib.Core.Path.{◌≡◌, ap, ◌∙◌}
use mathlib.Core.Option.{none}
use native.Mathlib.Omega.{arith}
use Rattle.model.specs.Refusal.{answered}
use Rattle.refusal.proofs.PassedOn.{passed_answer}
use Rattle.monitor.specs.MonitorCalls.{check_task_in}
use Rattle.monitor.proofs.WindowLaws.{task_of_lem, show_refused, show_answered}
use Rattle.monitor.proofs.show_task.Goals.{In_ok-check_task}
use Rattle.monitor.proofs.show_task.Goals as goal

there : (c : In_ok-check_task) → let a = c.args in none ≡ check_task_in a.window.now a.task
there c = c.in_ok-check_task.ensures

pub returns-in_err-check_task : goal.returns-in_err-check_task
returns-in_err-check_task c = passed_answer _ _ _ c.from_residual.ensures.1 (show_refused _ _ _ c.in_err-check_task.ensures)

pub tally_of-requires : goal.tally_of-requires
tally_of-requires c =
    let u = task_of_lem _ _ (there (goal.at.tally_of-requires c).In_ok-check_task) in
    (u.0.long, omega (arith, u.1, u.0.few_tasks))

pub returns : goal.returns
returns c = ap answered c.tally_of.ensures ∙ show_answered _ _ (there (goal.at.returns c).In_ok-check_task)
