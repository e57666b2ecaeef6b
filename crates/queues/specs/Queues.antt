-- The jobs of a list in columns of numbers, and what the functions over their queues answer.
use Rattle.std.specs.Prelude.{ℕ, zero, suc, ◌+◌, ◌-◌, ◌*◌, ◌≤◌, ◌<◌, min, ◌≡◌, Bool, cond, List, length, get_or, leb, ltb, eqb}
use Rattle.std.proofs.Math.Option.{Option, some, none}
use Rattle.model.specs.Limits.{max_tasks, max_time, max_releases, max_tick, max_frame}
use Rattle.model.specs.Search.{first}
use Rattle.model.specs.Frame.{Frame, InRules, ours_in, turn_of}
use Rattle.model.specs.Processor.{pickup, plain}
use Rattle.model.specs.Run.{Jobs, finish_of}

-- the first tick in which a job may run, given its ready tick; no charge changes it
abbrev pub start_of : ℕ → ℕ
start_of ready = (plain 0).start ready

-- the jobs of n releases in a frame, if any, given in columns with the charge and their ready ticks
abbrev pub jobs_of : Option Frame → ℕ → List ℕ → List ℕ → ℕ → List ℕ → Jobs
jobs_of o n task cost charge ready = record {
  count = n;
  task = λ p. get_or task p 0;
  start = λ p. start_of (get_or ready p 0);
  work = λ p. (plain charge).work (get_or cost p 0);
  ours = ours_in o;
  turn = turn_of o;
}

-- the largest finish tick of a list that passes the checks of a run, given the ticks of its frame, 1 where there is none: the largest release tick, the
-- pickup, and 1,000,000 frames for each of 1,024 releases. Without a frame it is 1,000,001,024,000,001
abbrev pub finish_limit : ℕ → ℕ
finish_limit turn = max_tick + pickup + max_time * max_releases * turn

-- the largest with any frame: 1,010,240,000,000,001
abbrev pub max_finish : ℕ
max_finish = finish_limit max_frame

-- the first of from, .., n - 1 at which the test holds, and n where there is none
unfoldable pub or_else : ℕ → Option ℕ → ℕ
or_else n none = n
or_else n (some p) = p

abbrev pub first_from : (ℕ → Bool) → ℕ → ℕ → ℕ
first_from test n from = or_else n (first test (n - from) from)

-- the first job of task i from a place on
abbrev pub next_of : List ℕ → ℕ → ℕ → ℕ → ℕ
next_of task n i from = first_from (λ p. eqb (get_or task p 0) i) n from

-- a tick over every start and finish tick of a run: 2^64 − 1, the largest of 64 bits
abbrev pub never : ℕ
never = 18446744073709551615

-- the tick from which the job at p may run; never where p is past the list
unfoldable pub wake_of : List ℕ → ℕ → ℕ → ℕ
wake_of ready n p = cond (ltb p n) (start_of (get_or ready p 0)) never

-- a column whose first n slots hold ready ticks of jobs that may run before never
pub record Timely (n : ℕ) (ready : List ℕ) : Type 0 where
  pub long : n ≤ length ready
  pub soon : (p : ℕ) → p < n → start_of (get_or ready p 0) < never

-- the highest-priority task whose oldest unfinished job may run in tick t
abbrev pub top_ready : List ℕ → List ℕ → ℕ → ℕ → ℕ → ℕ
top_ready head ready n tasks t = first_from (λ i. leb (wake_of ready n (get_or head i 0)) t) tasks 0

-- the least of f 0, .., f (n - 1), and never where n is 0
unfoldable pub earliest : (ℕ → ℕ) → ℕ → ℕ
earliest f zero = never
earliest f (suc n) = min (earliest f n) (f n)

-- the first tick in which the oldest unfinished job of a task may run
abbrev pub wake_all : List ℕ → List ℕ → ℕ → ℕ → ℕ
wake_all head ready n tasks = earliest (λ i. wake_of ready n (get_or head i 0)) tasks

-- the work of the job at p; 0 where p is past the list
unfoldable pub work_of : List ℕ → ℕ → ℕ → ℕ → ℕ
work_of cost charge n p = cond (ltb p n) ((plain charge).work (get_or cost p 0)) 0

-- a column whose first n slots hold costs of jobs whose work, with the charge, is at most 1,000,000
pub record Workable (n : ℕ) (cost : List ℕ) (charge : ℕ) : Type 0 where
  pub long : n ≤ length cost
  pub high : (p : ℕ) → p < n → (plain charge).work (get_or cost p 0) ≤ max_time

-- columns of n releases that can be run in a frame, if any, within the rules: tasks, work and finish ticks within their limits, some work for each, and ready
-- ticks that never fall along a task
pub record Runnable (o : Option Frame) (n tasks : ℕ) (task cost : List ℕ) (charge : ℕ) (ready finish : List ℕ) : Type 0 where
  pub framed : (f : Frame) → o ≡ some f → InRules f
  pub few : n ≤ max_releases
  pub few_tasks : tasks ≤ max_tasks
  pub task_long : n ≤ length task
  pub workable : Workable n cost charge
  pub ready_long : n ≤ length ready
  pub finish_long : n ≤ length finish
  pub known : (p : ℕ) → p < n → get_or task p 0 < tasks
  pub work_low : (p : ℕ) → p < n → 1 ≤ (plain charge).work (get_or cost p 0)
  pub finish_high : (p : ℕ) → p < n → finish_of (jobs_of o n task cost charge ready) p ≤ max_finish
  pub in_order : (p q : ℕ) → p < q → q < n → get_or task p 0 ≡ get_or task q 0 → get_or ready p 0 ≤ get_or ready q 0
