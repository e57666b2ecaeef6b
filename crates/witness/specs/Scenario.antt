-- The list of releases in which a job of task i is late. From a tick `base` on each task above brings as many jobs as its kept jitter lets through in w ticks;
-- from a tick `first` on task i has its jobs 0 .. last as close as its jitter allows. No processor is needed to say this.
use Rattle.std.specs.Prelude.{ℕ, suc, cond, List, ltb}
use Rattle.model.specs.Tasks.{Tasks, Release}
use Rattle.model.specs.Arrival.{arrivals}
use Rattle.witness.specs.Merge.{merged}
use Rattle.witness.specs.GapTimes.{gap_time}

-- what stands for a task above i, and what for task i
unfoldable pub above : ℕ → ℕ → ℕ → ℕ → ℕ
above i x y j = cond (ltb j i) x y

-- the jitter that the releases of task j use up
abbrev pub spent_of : Tasks → (ℕ → ℕ) → ℕ → ℕ → ℕ
spent_of s k i j = above i (k j) (s.jitter j) j

-- how many releases of task j there are
abbrev pub many_of : Tasks → (ℕ → ℕ) → ℕ → ℕ → ℕ → ℕ → ℕ
many_of s k i last w j = above i (arrivals (s.period j) (k j) w) (suc last) j

-- the x-th release of task j
abbrev pub time_of : Tasks → (ℕ → ℕ) → ℕ → ℕ → ℕ → ℕ → ℕ → ℕ
time_of s k i base first j = gap_time (s.period j) (spent_of s k i j) (above i base first j)

-- the releases of the tasks above i and of task i
unfoldable pub scenario : Tasks → (ℕ → ℕ) → ℕ → ℕ → ℕ → ℕ → ℕ → List Release
scenario s k i base first last w = merged (time_of s k i base first) s.cost (many_of s k i last w) (suc i)
