-- The ticks that some of ours take.
use Rattle.std.specs.Prelude.{ℕ, ◌*◌, ◌≤◌, ◌<◌, Bool}
use Rattle.model.specs.Limits.{max_frame}
use Rattle.model.specs.Frame.{supply}

-- t is the least number of ticks from u on among which d are ours
pub record Reached (ours : ℕ → Bool) (u d t : ℕ) : Type 0 where
  pub enough : d ≤ supply ours u t
  pub least : (x : ℕ) → x < t → supply ours u x < d

-- and its bound
pub record IsReach (ours : ℕ → Bool) (u d t : ℕ) : Type 0 where
  pub reached : Reached ours u d t
  pub high : t ≤ d * max_frame
