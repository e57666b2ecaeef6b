-- What the calls on the small traces look at and answer.
use Rattle.std.specs.Prelude as std
use Rattle.std.specs.Prelude.{Result, Ok, ℕ, ◌*◌, ◌≤◌, ◌≡◌, List, [], ◌∷◌, length}
use Rattle.std.proofs.Math.Option.{Option, some}
use Rattle.model.specs.Tasks.{Tasks, Release}
use Rattle.model.specs.Refusal.{Answer, answered, answer_by}
use Rattle.model.specs.Calls.{releases_of}
use Rattle.refusal.specs.declared.Refusal.{Refusal}
use Rattle.refusal.specs.Refusal.{answer_in, option_in}
use Rattle.taskset.specs.declared.Task.{Task}
use Rattle.taskset.specs.declared.TaskSet.{TaskSet}
use Rattle.taskset.specs.TaskSet.{entry_of}
use Rattle.generator.specs.declared.Timing.{Timing}
use Rattle.generator.specs.declared.Grid.{Grid}
use Rattle.enumeration.specs.SmallTraces.{small_traces}
use Rattle.enumeration.specs.SmallCalls.{small_fault, member_at, length_in, small_column}

-- P, J and E of a task
abbrev pub timing_of : Task → Timing
timing_of t = record { period = t.period; jitter = t.jitter; cost = t.cost }

-- the pairs of a sheet with ticks below t: at most 3 tasks are looked at
abbrev pub grid_for : TaskSet → ℕ → Grid
grid_for s t = record { timings = timing_of (entry_of s 0) ∷ timing_of (entry_of s 1) ∷ timing_of (entry_of s 2) ∷ []; tasks = s.count; pairs = t * s.count }

-- document 02's answer of a call for a trace: the number of its releases, or none, or the number and the place
abbrev pub small_in : Result (std.Option ℕ) Refusal → Answer (Option ℕ)
small_in = answer_in option_in

abbrev pub count_in : Result ℕ Refusal → Answer ℕ
count_in = answer_in (λ n. n)

-- the trace at position p, before the lent columns are looked at
unfoldable pub found_call : Tasks → ℕ → ℕ → ℕ → Answer (Option (List Release))
found_call s n t p = answer_by (small_fault s n t) (member_at (small_traces s n t) p)

-- how a search for a trace ends, given its answer: what it tells, and that the rows, of 6 places, hold the trace
pub record Finds (a : Answer (Option (List Release))) (task' tick' cost' : List ℕ) (r : Result (std.Option ℕ) Refusal) : Type 0 where
  pub told : small_in r ≡ length_in a
  pub rows : (l : List Release) → a ≡ answered (some l) → releases_of (length l) task' tick' cost' ≡ l
  pub few : (k : ℕ) → r ≡ Ok (std.Some k) → k ≤ 6

-- how a call for a trace ends, given its answer: what it tells, and what stands in the three columns
pub record SmallEnds (a : Answer (Option (List Release))) (task tick cost task' tick' cost' : List ℕ) (r : Result (std.Option ℕ) Refusal) : Type 0 where
  pub told : small_in r ≡ length_in a
  pub task_column : task' ≡ small_column (λ q. q.task) a task
  pub tick_column : tick' ≡ small_column (λ q. q.tick) a tick
  pub cost_column : cost' ≡ small_column (λ q. q.cost) a cost
