-- The checks of sheet and list come first.
use mathlib.Core.Path.{◌≡◌, ap}
use mathlib.Core.Option.{none}
use Rattle.model.specs.Refusal.{answered}
use Rattle.model.specs.Checks.{refusal_of}
use Rattle.model.specs.Calls.{list_inputs}
use Rattle.taskset.specs.TaskSet.{view_of}
use Rattle.refusal.proofs.PassedOn.{passed_answer}
use Rattle.releases.proofs.ReleaseLaws.{listed_of}
use Rattle.trace.proofs.ListCallLaws.{listed_shapable, trace_refused, trace_answered}
use Rattle.trace.proofs.check_trace.Goals.{In_ok-check_list}
use Rattle.trace.proofs.check_trace.Goals as goal

list_fine : (c : In_ok-check_list) → let a =
    c.args in none ≡ refusal_of (list_inputs (view_of a.s) a.list.now.count a.list.now.task.now a.list.now.tick.now a.list.now.cost.now)
list_fine c = c.in_ok-check_list.ensures

pub returns-in_err-check_list : goal.returns-in_err-check_list
returns-in_err-check_list c = passed_answer _ _ _ c.from_residual.ensures.1 (trace_refused _ _ _ _ _ _ c.in_err-check_list.ensures)

pub first_close-requires : goal.first_close-requires
first_close-requires c =
    let a = c.args in
    listed_shapable (view_of a.s) a.list.now.count a.list.now.task.now a.list.now.tick.now a.list.now.cost.now (listed_of _ _ _ _ _ (list_fine (goal.at.first_close-requires c).In_ok-check_list))

pub returns : goal.returns
returns c = trace_answered _ _ _ _ _ _ (list_fine (goal.at.returns c).In_ok-check_list) (ap answered (c.first_close.ensures _))
