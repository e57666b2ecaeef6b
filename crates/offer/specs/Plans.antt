-- What an ask answers, and the new sheet by value.
use Rattle.std.specs.Prelude as std
use Rattle.std.specs.Prelude.{ℕ, suc, ◌-◌, Result, [], ◌∷◌, ◌++◌, leb, replicate}
use Rattle.std.proofs.Math.Option.{Option}
use Rattle.model.specs.Series.{table}
use Rattle.model.specs.Limits.{max_tasks}
use Rattle.model.specs.Tasks.{Tasks}
use Rattle.model.specs.Refusal as model
use Rattle.model.specs.Refusal.{Answer, first_refusal}
use Rattle.model.specs.Checks.{refuse_if, check_tasks}
use Rattle.taskset.specs.declared.Task.{Task}
use Rattle.taskset.specs.declared.TaskSet.{TaskSet}
use Rattle.taskset.specs.TaskSet.{no_task, entry_of}
use Rattle.refusal.specs.declared.Refusal.{Refusal}
use Rattle.refusal.specs.Refusal.{answer_in}
use Rattle.frame.specs.declared.Frame.{Frame}
use Rattle.admission.specs.Offers as admission_offers
use Rattle.plan.specs.declared.Plan.{Plan}
use Rattle.plan.specs.PlanView.{plan_view}

-- an answer as the definitions have it
abbrev pub plan_in : std.Option Frame → Result Plan Refusal → Answer admission_offers.Plan
plan_in f = answer_in (λ (p : Plan). plan_view p f)

-- what an ask checks before it looks at the new task: the sheet held and its frame, 14, and that there is room for one task more (4)
unfoldable pub ask_first : Tasks → ℕ → Option model.Refusal
ask_first s p = first_refusal (check_tasks s ∷ admission_offers.check_place s p ∷ refuse_if (leb max_tasks s.count) 4 max_tasks ∷ [])

-- the new sheet: the task at its place, entries past the new count 0
abbrev pub inserted_sheet : TaskSet → ℕ → Task → TaskSet
inserted_sheet s p t = record {
  tasks = table (admission_offers.inserted p t (entry_of s)) (suc s.count) ++ replicate (31 - s.count) no_task;
  count = suc s.count;
  charge = s.charge;
}
