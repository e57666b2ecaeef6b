-- What the functions of the run that jumps answer, over columns of numbers.
use Rattle.std.specs.Prelude.{ℕ, ◌≤◌, ◌<◌, ◌≡◌, Bool, ◌&&◌, not, ◌⊎◌, Result, List, ◌++◌, length, get_or, leb, eqb}
use Rattle.model.specs.Limits.{max_tasks}
use Rattle.model.specs.Series.{table}
use Rattle.model.specs.Run.{Jobs, finish_of}
use Rattle.model.specs.Refusal.{Answer}
use Rattle.refusal.specs.declared.Refusal.{Refusal}
use Rattle.refusal.specs.Refusal.{answer_in}
use Rattle.queues.specs.Queues.{start_of, first_from, never, wake_of, Timely}

-- the answer of the call: how often the run stopped, or a refusal
abbrev pub jump_in : Result ℕ Refusal → Answer ℕ
jump_in = answer_in (λ n. n)

-- the ticks at which the run of some jobs stops: their start ticks, which are their ready ticks plus 1, and their finish ticks
abbrev pub stops_of : Jobs → List ℕ
stops_of j = table j.start j.count ++ table (finish_of j) j.count

-- the job at p is one of task i that may not run in tick t yet
abbrev pub comes : List ℕ → List ℕ → ℕ → ℕ → ℕ → ℕ → Bool
comes task ready n i t p = eqb (get_or task p 0) i && not (leb (wake_of ready n p) t)

-- the first such job from a place on
abbrev pub coming_of : List ℕ → List ℕ → ℕ → ℕ → ℕ → ℕ → ℕ
coming_of task ready n i t from = first_from (comes task ready n i t) n from

-- columns of n jobs of some tasks that may run before never, and whose ready ticks never fall along a task
pub record Queued (n tasks : ℕ) (task ready : List ℕ) : Type 0 where
  pub few_tasks : tasks ≤ max_tasks
  pub task_long : n ≤ length task
  pub timely : Timely n ready
  pub known : (p : ℕ) → p < n → get_or task p 0 < tasks
  pub in_order : (p q : ℕ) → p < q → q < n → get_or task p 0 ≡ get_or task q 0 → get_or ready p 0 ≤ get_or ready q 0

-- the first tick in which the job at p may run
abbrev pub start_at : List ℕ → ℕ → ℕ
start_at ready p = start_of (get_or ready p 0)

-- wake is the first start tick after t of the jobs of some tasks, or never
pub record Next (n : ℕ) (task ready : List ℕ) (those : ℕ → Type 0) (t wake : ℕ) : Type 0 where
  pub low : (q : ℕ) → q < n → those (get_or task q 0) → t < start_at ready q → wake ≤ start_at ready q
  pub real : (wake ≡ never) ⊎ ((q : ℕ) × (q < n) × those (get_or task q 0) × (t < start_at ready q) × (start_at ready q ≡ wake))

-- for each task the place of a job of the task before which every one may run in tick t, or n, and its start tick
pub record Awake (n tasks : ℕ) (task ready : List ℕ) (t : ℕ) (coming due : List ℕ) : Type 0 where
  pub long : length coming ≡ 32
  pub due_long : length due ≡ 32
  pub within : (i : ℕ) → i < tasks → get_or coming i 0 ≤ n
  pub own : (i : ℕ) → i < tasks → get_or coming i 0 < n → get_or task (get_or coming i 0) 0 ≡ i
  pub past : (i q : ℕ) → i < tasks → q < get_or coming i 0 → get_or task q 0 ≡ i → start_at ready q ≤ t
  pub due_is : (i : ℕ) → i < tasks → get_or due i 0 ≡ wake_of ready n (get_or coming i 0)

-- what is known of the next start tick at t: where t has not reached wake, it is wake
pub record Waking (n tasks : ℕ) (task ready : List ℕ) (t wake : ℕ) (coming due : List ℕ) : Type 0 where
  pub awake : Awake n tasks task ready t coming due
  pub next : t < wake → Next n task ready (λ i. i < tasks) t wake

-- a column with the start tick of each task's oldest unfinished job
pub record Sinces (n tasks : ℕ) (ready head since : List ℕ) : Type 0 where
  pub long : length since ≡ 32
  pub each : (i : ℕ) → i < tasks → get_or since i 0 ≡ wake_of ready n (get_or head i 0)
