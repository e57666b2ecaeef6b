-- The search for W(q) by its list of t: what holds at its head.
use Rattle.std.specs.Prelude.{ℕ, ◌≤◌, ◌<◌, ◌≡◌, false}
use Rattle.model.specs.Limits.{horizon_tick}
use Rattle.model.specs.Tasks.{Tasks}
use Rattle.model.specs.Demand.{demand}
use Rattle.model.specs.Evaluations.{tried_at, ends_at}

-- every number of ticks from 1 to below t is too short: the demand in it is not met
abbrev pub TooShort : Tasks → (ℕ → ℕ) → ℕ → ℕ → ℕ → Type 0
TooShort s k i q t = (x : ℕ) → 1 ≤ x → x < t → x < demand s k i q x

-- at the head of the search for W(q), where m members of its list have been tried: t is the next member, and every t below is too short
pub record Search (s : Tasks) (k : ℕ → ℕ) (i q m t : ℕ) : Type 0 where
  pub member : t ≡ tried_at s k i q m
  pub passed : (x : ℕ) → x < m → ends_at s k i q x ≡ false
  pub few : m ≤ horizon_tick
  pub low : m < t
  pub short : TooShort s k i q t
