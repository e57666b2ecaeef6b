-- What a lent window shows after any calls from an opening: the statement. proofs/AnyCallsLaws.antt proves it (`after_any_calls`).
use Rattle.std.specs.Prelude.{ℕ, ◌≤◌, ◌<◌, ◌≡◌, true, false, List, [], ◌∷◌, leb, length, drop}
use Rattle.std.proofs.Math.Option.{none}
use Rattle.model.specs.Limits.{max_tasks, max_time}
use Rattle.model.specs.Series.{table}
use Rattle.model.specs.Tasks.{Tasks}
use Rattle.model.specs.Refusal.{Answer, refused, answered}
use Rattle.model.specs.Checks.{refuse_if, check_tasks, check_slots, refusal_of}
use Rattle.model.specs.LastJobs.{Completion, Shown, WindowCall, open_on, finished, Window, after_calls, display}
use Rattle.monitor.specs.Layout.{window_slots, tasks_in, count_in, deadline_in, job_in, used_in, held_in}
use Rattle.monitor.specs.MonitorCalls.{open_inputs, open_after, check_task_in, job_after, show_call, columns_lent, all_refusal, jobs_column, late_column, largest_column}

-- the slots after a call, and after calls; the calls that show change no slot
unfoldable pub slots_after : List ℕ → WindowCall → List ℕ
slots_after w (open_on s) = open_after s w
slots_after w (finished c) = job_after w c

unfoldable pub slots_after_all : List ℕ → List WindowCall → List ℕ
slots_after_all w [] = w
slots_after_all w (c ∷ l) = slots_after_all (slots_after w c) l

-- the slots of a window are well-formed: enough of them, 1 to 32 tasks, each deadline within its range, the count below 512, and at each place in use a job of one of
-- the tasks
pub record WellFormed (w : List ℕ) : Type 0 where
  pub long : window_slots ≤ length w
  pub some_task : 1 ≤ tasks_in w
  pub few_tasks : tasks_in w ≤ max_tasks
  pub deadline_low : (i : ℕ) → i < tasks_in w → 1 ≤ deadline_in w i
  pub deadline_high : (i : ℕ) → i < tasks_in w → deadline_in w i ≤ max_time
  pub counts : count_in w < 512
  pub known : (k : ℕ) → k < used_in w → (job_in w k).task < tasks_in w

-- an opening that is not refused gives it, whatever the slots held, and each call keeps it
abbrev pub OpeningForms : Type 0
OpeningForms = (s : Tasks) (w : List ℕ) → refusal_of (open_inputs s w) ≡ none → WellFormed (open_after s w)

abbrev pub CallsKeepForm : Type 0
CallsKeepForm = (w : List ℕ) (c : WindowCall) → WellFormed w → WellFormed (slots_after w c)

-- what the definitions let a show of task i answer: 14 where there is no such task
unfoldable pub displayed : Window → ℕ → Answer Shown
displayed v i = elim (leb v.sheet.count i) [ true ↦ refused (record { number = 14; place = i }) | false ↦ answered (display v i) ]

-- the slots show a window: the next call answers as the definitions say of that window
pub record Shows (v : Window) (w : List ℕ) : Type 0 where
  pub formed : WellFormed w
  -- a further opening: the checks of its sheet alone can refuse it
  pub open_code : (t : Tasks) → refusal_of (open_inputs t w) ≡ check_tasks t
  -- a finished job: 14 where its task is not in the sheet, and then every slot keeps what it held
  pub job_code : (c : Completion) → check_task_in w c.task ≡ refuse_if (leb v.sheet.count c.task) 14 c.task
  pub job_kept : (c : Completion) → v.sheet.count ≤ c.task → job_after w c ≡ w
  -- show one task
  pub one : (i : ℕ) → show_call w i ≡ displayed v i
  -- show all tasks: 13 where a column is too short for the tasks, and the columns
  pub all_code
      : (jobs late largest : List ℕ) → all_refusal w jobs late largest ≡ check_slots (columns_lent v.sheet.count (length jobs) (length late) (length largest))
  pub all_jobs : jobs_column (tasks_in w) (held_in w) ≡ table (λ i. (display v i).jobs) v.sheet.count
  pub all_late : late_column (tasks_in w) (deadline_in w) (held_in w) ≡ table (λ i. (display v i).late) v.sheet.count
  pub all_largest : largest_column (tasks_in w) (held_in w) ≡ table (λ i. (display v i).largest) v.sheet.count

-- "after any calls from there": from slots that hold anything, an opening on a sheet that is not refused, and then any calls, further openings among them. The slots past
-- the window are never touched
pub record HoldsAfter (s : Tasks) (w : List ℕ) (l : List WindowCall) : Type 0 where
  pub shows : Shows (after_calls (record { sheet = s; accepted = [] }) l) (slots_after_all (open_after s w) l)
  pub past : drop window_slots (slots_after_all (open_after s w) l) ≡ drop window_slots w
  pub same : length (slots_after_all (open_after s w) l) ≡ length w

abbrev pub AfterAnyCalls : Type 0
AfterAnyCalls = (s : Tasks) (w : List ℕ) (l : List WindowCall) → refusal_of (open_inputs s w) ≡ none → HoldsAfter s w l
