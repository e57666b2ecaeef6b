-- The shapers of the tasks of a sheet.
use Rattle.std.specs.Prelude.{ℕ, ◌≤◌, ◌<◌, ◌≡◌, List, [], length, get_or}
use Rattle.model.specs.Limits.{max_tasks}
use Rattle.shaper.specs.declared.Shaper.{Shaper}
use Rattle.shaper.specs.Shaper.{state_of}

-- the shaper of no task
abbrev pub unused : Shaper
unused = state_of 0 0 []

-- the shapers of the first n tasks, with periods P and kept jitters K: that of task i stands for the jobs with the ready ticks h i. Past them the
-- entries are of no task
pub record Standing (P K : ℕ → ℕ) (h : ℕ → List ℕ) (n : ℕ) (m : List Shaper) : Type 0 where
  pub long : length m ≡ max_tasks
  pub state : (i : ℕ) → i < n → (d : Shaper) → get_or m i d ≡ state_of (P i) (K i) (h i)
  pub past : (i : ℕ) → n ≤ i → i < max_tasks → (d : Shaper) → get_or m i d ≡ unused
