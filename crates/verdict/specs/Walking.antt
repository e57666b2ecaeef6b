-- What the walk over q needs of its task, and the best value so far.
use Rattle.std.specs.Prelude.{ℕ, ◌≤◌, ◌+◌, ◌*◌, ◌<◌, ◌≡◌, cond, ltb, pos, List, length}
use Rattle.verdict.specs.declared.Best.{Best}
use Rattle.model.specs.Limits.{max_time, horizon_tick}
use Rattle.model.specs.Choice.{column}
use Rattle.model.specs.Bound.{bound}
use Rattle.model.specs.Tasks.{Tasks}
use Rattle.frame.specs.declared.Supply.{Supply}
use Rattle.frame.specs.WindowColumns.{frame_in}
use Rattle.demand.specs.declared.TaskColumns.{TaskColumns}
use Rattle.demand.specs.Columns.{flat_tasks, Searchable}

-- the best so far, with the value r at q met next
unfoldable pub better_of : Best → ℕ → ℕ → Best
better_of b r q = cond (ltb b.worst r) (record { worst = r; first = q }) b

-- the tasks of columns with the frame that is prepared, each with jitter J and deadline D
abbrev pub tasks_in : Supply → TaskColumns → ℕ → ℕ → Tasks
tasks_in s c J D = flat_tasks (frame_in s) c.loads c.periods J D

-- columns of a task and those above it, with the task's jitter
pub record Walkable (loads periods keeps : List ℕ) (i J : ℕ) : Type 0 where
  pub search : Searchable loads periods keeps i
  pub periods_long : i < length periods
  pub keeps_long : i < length keeps
  pub period_high : column periods i ≤ max_time
  pub jitter_high : J ≤ max_time
  pub keep_high : column keeps i ≤ J

-- P, J, K, q and W(q) where the walk computes a response bound: R(q) is not below 1
pub record Met (P J K q w : ℕ) : Type 0 where
  pub period_high : P ≤ max_time
  pub jitter_high : J ≤ max_time
  pub keep_high : K ≤ J
  pub q_high : q ≤ horizon_tick
  pub w_low : 1 ≤ w
  pub w_high : w ≤ horizon_tick
  pub behind : q * P < w + K

-- the number r is R(q), and small
pub record IsResponse (P J K q w r : ℕ) : Type 0 where
  pub is : pos r ≡ bound P J K q w
  pub low : 1 ≤ r
