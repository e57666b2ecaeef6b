-- A task set and the list of its tasks give the same checks.
use Prim.Native.Nat.{ℕ, ◌-◌, ◌≤◌}
use mathlib.Core.Path.{◌≡◌, refl, sym, ap, ap₂, ◌∙◌}
use mathlib.Core.Bool.{true, false}
use mathlib.Core.Option.{Option, some, none}
use mathlib.Core.List.{◌++◌}
use lib.Dec.{leb, eqb}
use lib.ListN.{length, take, drop, replicate, take-append-drop}
use lib.Seq.{get_or-take, length-take-le}
use Rattle.model.specs.Limits.{max_tasks, max_releases}
use Rattle.model.specs.Tasks.{Tasks, Release}
use Rattle.model.specs.SameTasks.{SameTasks}
use Rattle.model.proofs.SameAnswers.{fault_same}
use Rattle.taskset.specs.declared.TaskSet.{TaskSet}
use Rattle.taskset.specs.TaskSet.{no_task, view_of}
use Rattle.fileformat.specs.Records.{Width}
use Rattle.fileformat.specs.File.{sheet_with, low_tick, high_tick, list_fault}
use Rattle.fileformat.specs.FileCalls.{tasks_in, set_with}

-- a release record is checked against the count and the release's own fault
abbrev faults : ℕ → ℕ → Option ℕ → Option ℕ
faults n c o =
    elim (eqb c 0) [
      | true ↦ some 5
      | false ↦ elim o [ some k ↦ some k | none ↦ elim (leb max_releases n) [ true ↦ some 10 | false ↦ none ] ]
    ]

pub list_agrees : (s s' : Tasks) (n before : ℕ) (w : Width) (r : Release) → SameTasks s s' → list_fault s n before w r ≡ list_fault s' n before w r
unfolding list_fault
list_agrees s s' n before w r a = ap₂ (faults n) a.count (fault_same s s' a (low_tick w before) (high_tick w) r)

-- a task set whose count is within its array
module _ (s : TaskSet) (h : s.count ≤ length s.tasks) where
  pub length_tasks : length (tasks_in s) ≡ s.count
  unfolding tasks_in
  length_tasks = length-take-le s.count s.tasks h

  pub same_sheet : SameTasks (view_of s) (sheet_with s.charge (tasks_in s))
  unfolding tasks_in
  same_sheet =
      record {
        count = sym (length-take-le s.count s.tasks h);
        period = λ i l. ap (λ t. t.period) (sym (get_or-take s.count s.tasks i no_task l));
        jitter = λ i l. ap (λ t. t.jitter) (sym (get_or-take s.count s.tasks i no_task l));
        cost = λ i l. ap (λ t. t.cost) (sym (get_or-take s.count s.tasks i no_task l));
        deadline = λ i l. ap (λ t. t.deadline) (sym (get_or-take s.count s.tasks i no_task l));
        low = λ i l. ap (λ t. t.low) (sym (get_or-take s.count s.tasks i no_task l));
        charge = refl;
        frame = tt;
      }

  -- entries past the count that are 0 stand as in the set of its tasks
  pub set_of_tasks : drop s.count s.tasks ≡ replicate (max_tasks - s.count) no_task → s ≡ set_with s.charge (tasks_in s)
  unfolding tasks_in set_with
  set_of_tasks e =
      let c = length-take-le s.count s.tasks h in
      rw c
      (ap (λ l. record { tasks = l; count = s.count; charge = s.charge }) (sym (take-append-drop s.count s.tasks) ∙ ap (λ x. take s.count s.tasks ++ x) e))
