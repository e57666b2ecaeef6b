-- The calls on a lent window: what each checks and answers, and what stands in the lent slots afterwards.
use Rattle.std.specs.Prelude.{ℕ, Result, ◌+◌, ◌≤◌, ◌<◌, max, true, false, List, [], ◌∷◌, leb, ltb, eqb, length, get_or, set}
use Rattle.std.proofs.Math.Option.{Option, some, none}
use Rattle.model.specs.Limits.{max_tasks}
use Rattle.model.specs.Series.{on, table}
use Rattle.model.specs.Tasks.{Tasks}
use Rattle.model.specs.Refusal.{Refusal, first_refusal, Answer, refused, answered}
use Rattle.model.specs.Checks.{Lent, refuse_if, check_slots, Inputs, refusal_of}
use Rattle.model.specs.Calls.{lends, column_after}
use Rattle.model.specs.LastJobs.{Completion, jobs_of, late_of, largest_of, Shown, shown_of}
use Rattle.monitor.specs.Layout.{window_slots, tasks_in, deadline_in, held_in, with_job, opened_on}
use Rattle.refusal.specs.declared.Refusal as refusal
use Rattle.refusal.specs.Refusal.{answer_in}
use Rattle.monitor.specs.declared.Tally.{Tally}

-- open: the sheet's checks (5, 4, then 6 and 17 by task; the sheets of the calls have no frame), then 13 for the window
abbrev pub open_inputs : Tasks → List ℕ → Inputs
open_inputs s w = record {
  tasks = s;
  single = none;
  count = none;
  lent = lends window_slots w ∷ [];
  kept = none;
  releases = [];
  unfit = none;
}

-- what stands in the window afterwards
abbrev pub open_after : Tasks → List ℕ → List ℕ
open_after s w = column_after (refusal_of (open_inputs s w)) (opened_on s) w

-- a lent window: 13 where it is too short, then its number of tasks as that of a sheet (5, 4)
unfoldable pub check_window : List ℕ → Option Refusal
check_window w =
    first_refusal (check_slots (lends window_slots w ∷ []) ∷ refuse_if (eqb (tasks_in w) 0) 5 0 ∷ refuse_if (ltb max_tasks (tasks_in w)) 4 max_tasks ∷ [])

-- and a task of it: 14 where there is no such task
unfoldable pub check_task_in : List ℕ → ℕ → Option Refusal
check_task_in w i = first_refusal (check_window w ∷ refuse_if (leb (tasks_in w) i) 14 i ∷ [])

-- take a finished job: what stands in the window afterwards
unfoldable pub job_after : List ℕ → Completion → List ℕ
job_after w c = elim (check_task_in w c.task) [ none ↦ with_job w c | some r ↦ w ]

-- show one task
unfoldable pub show_call : List ℕ → ℕ → Answer Shown
show_call w i = elim (check_task_in w i) [ none ↦ answered (shown_of i (deadline_in w i) (held_in w)) | some r ↦ refused r ]

-- the columns lent for n tasks, given how many slots each has: jobs, late jobs and largest responses
abbrev pub columns_lent : ℕ → ℕ → ℕ → ℕ → List Lent
columns_lent n jobs late largest =
    record { needed = n; slots = jobs } ∷ record { needed = n; slots = late } ∷ record { needed = n; slots = largest } ∷ []

-- show all tasks: the window's checks, then 13 where one of the columns is too short for the tasks
unfoldable pub all_refusal : List ℕ → List ℕ → List ℕ → List ℕ → Option Refusal
all_refusal w jobs late largest =
    first_refusal (check_window w ∷ check_slots (columns_lent (tasks_in w) (length jobs) (length late) (length largest)) ∷ [])

-- its columns, of some jobs
abbrev pub jobs_column : ℕ → List Completion → List ℕ
jobs_column n l = table (λ i. jobs_of i l) n

abbrev pub late_column : ℕ → (ℕ → ℕ) → List Completion → List ℕ
late_column n D l = table (λ i. late_of i (D i) l) n

abbrev pub largest_column : ℕ → List Completion → List ℕ
largest_column n l = table (λ i. largest_of i l) n

-- what a tally says
abbrev pub tallied : Tally → Shown
tallied t = record { jobs = t.jobs; late = t.late; largest = t.largest }

-- what a show answers
abbrev pub shown_in : Result Tally refusal.Refusal → Answer Shown
shown_in = answer_in tallied

-- a count of task i with deadline D after one more job, of whichever task
unfoldable pub tallied_with : Shown → ℕ → ℕ → Completion → Shown
tallied_with t i D c =
    elim (eqb c.task i) [
      | true ↦ record { jobs = t.jobs + 1; late = t.late + on (ltb D c.response) 1; largest = max t.largest c.response }
      | false ↦ t
    ]

-- a column of n tasks in which the slot of task i, if it is one of them, is changed
unfoldable pub slot_with : ℕ → ℕ → (ℕ → ℕ) → List ℕ → List ℕ
slot_with n i f l = elim (ltb i n) [ true ↦ set l i (f (get_or l i 0)) | false ↦ l ]

-- the slots of n tasks in a column can count one more
pub record Countable (n : ℕ) (l : List ℕ) : Type 0 where
  pub long : n ≤ length l
  pub low : (i : ℕ) → i < n → get_or l i 0 < 4294967295
