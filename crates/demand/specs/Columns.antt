-- Tasks as flat columns: what the search for W(q) looks at.
use Rattle.std.specs.Prelude.{ℕ, ◌*◌, ◌≤◌, ◌<◌, ◌≡◌, false, List, length}
use Rattle.std.proofs.Math.Option.{Option}
use Rattle.model.specs.Series.{sum}
use Rattle.model.specs.Limits.{max_tasks, max_time, horizon_tick}
use Rattle.model.specs.Slots.{Holds}
use Rattle.model.specs.Frame.{Frame}
use Rattle.model.specs.Tasks.{Tasks, load}
use Rattle.model.specs.Arrival.{arrivals}
use Rattle.model.specs.Choice.{column}
use Rattle.taskset.specs.declared.TaskSet.{TaskSet}
use Rattle.taskset.specs.TaskSet.{view_of}
use Rattle.quotient.specs.Factor.{high_of, low_of, IsFactor}
use Rattle.demand.specs.declared.TaskColumns.{TaskColumns}
use Rattle.demand.specs.declared.FactorColumns.{FactorColumns}
use Rattle.demand.specs.declared.TaskSlices.{TaskSlices}
use Rattle.demand.specs.declared.FactorSlices.{FactorSlices}

-- the sum over the first n tasks of load × arrival count in t ticks
unfoldable pub column_load : List ℕ → List ℕ → List ℕ → ℕ → ℕ → ℕ
column_load loads periods keeps n t = sum (λ j. column loads j * arrivals (column periods j) (column keeps j) t) n

-- a task set with this frame, if any, these loads and periods and no charge, whose tasks have jitter J and deadline D and are high
abbrev pub flat_tasks : Option Frame → List ℕ → List ℕ → ℕ → ℕ → Tasks
flat_tasks o loads periods J D = record {
  count = 0;
  period = column periods;
  jitter = λ j. J;
  cost = column loads;
  deadline = λ j. D;
  low = λ j. false;
  charge = 0;
  frame = o;
}

-- the numbers of a task are within document 01's limits
pub record Small (E P K : ℕ) : Type 0 where
  pub load_high : E ≤ max_time
  pub period_low : 1 ≤ P
  pub period_high : P ≤ max_time
  pub keep_high : K ≤ max_time

-- ticks that the search tries
pub record Tried (t : ℕ) : Type 0 where
  pub low : 1 ≤ t
  pub high : t ≤ horizon_tick

-- columns of n tasks
pub record Columns (loads periods keeps : List ℕ) (n : ℕ) : Type 0 where
  pub few : n ≤ max_tasks
  pub loads_long : n ≤ length loads
  pub periods_long : n ≤ length periods
  pub keeps_long : n ≤ length keeps
  pub small : (j : ℕ) → j < n → Small (column loads j) (column periods j) (column keeps j)

-- n loads in a column
pub record Loads (loads : List ℕ) (n : ℕ) : Type 0 where
  pub few : n ≤ max_tasks
  pub long : n ≤ length loads
  pub high : (j : ℕ) → j < n → column loads j ≤ max_time

-- n periods in a column
pub record Periods (periods : List ℕ) (n : ℕ) : Type 0 where
  pub few : n ≤ max_tasks
  pub long : n ≤ length periods
  pub low : (j : ℕ) → j < n → 1 ≤ column periods j

-- columns that hold the factors of the first n periods, in two parts
pub record Factored (periods highs lows : List ℕ) (n : ℕ) : Type 0 where
  pub highs_long : n ≤ length highs
  pub lows_long : n ≤ length lows
  pub each : (j : ℕ) → j < n → IsFactor (column periods j) (column highs j) (column lows j)

-- columns of the tasks above i, and the load of task i: what the search for W(q) needs
pub record Searchable (loads periods keeps : List ℕ) (i : ℕ) : Type 0 where
  pub above : Columns loads periods keeps i
  pub loads_long : i < length loads
  pub cost_low : 1 ≤ column loads i
  pub cost_high : column loads i ≤ max_time

-- load × arrival count of one task, and its bound
pub record IsTerm (E P K t r : ℕ) : Type 0 where
  pub is : r ≡ E * arrivals P K t
  pub high : r ≤ 12000000000000

-- the sum over n tasks, and its bound
pub record IsLoad (loads periods keeps : List ℕ) (n t r : ℕ) : Type 0 where
  pub is : r ≡ column_load loads periods keeps n t
  pub high : r ≤ 384000000000000

-- one load of each of n tasks, and its bound
pub record IsOnce (loads : List ℕ) (n r : ℕ) : Type 0 where
  pub is : r ≡ sum (column loads) n
  pub high : r ≤ 32000000

-- columns that hold loads and periods of the first j tasks of a task set, and 0 past them
pub record Copied (s : TaskSet) (j : ℕ) (loads periods : List ℕ) : Type 0 where
  pub within : j ≤ s.count
  pub of_loads : Holds (load (view_of s)) j max_tasks loads
  pub of_periods : Holds (view_of s).period j max_tasks periods

-- columns that hold the factors of the first n periods, in two parts, and 0 past them
pub record Prepared (periods : List ℕ) (n : ℕ) (highs lows : List ℕ) : Type 0 where
  pub of_highs : Holds (λ j. high_of (column periods j)) n max_tasks highs
  pub of_lows : Holds (λ j. low_of (column periods j)) n max_tasks lows

-- the same facts of the columns that the functions take
abbrev pub HasTasks : TaskColumns → List ℕ → ℕ → Type 0
HasTasks c keeps n = Columns c.loads c.periods keeps n

abbrev pub HasFactors : TaskColumns → FactorColumns → ℕ → Type 0
HasFactors c f n = Factored c.periods f.highs f.lows n

-- the columns that are lent
abbrev pub columns_lent : TaskSlices → TaskColumns
columns_lent c = record { loads = c.loads.now; periods = c.periods.now }

abbrev pub factors_lent : FactorSlices → FactorColumns
factors_lent f = record { highs = f.highs.now; lows = f.lows.now }
