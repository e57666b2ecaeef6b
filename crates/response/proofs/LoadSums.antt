-- What several tasks bring in t ticks, for any loads: it rises with t and with the kept jitters, and two windows in a row bring no less than both together.
use Prim.Native.Nat.{ℕ, ◌+◌, ◌*◌, ◌≤◌, ◌<◌}
use mathlib.Core.Path.{refl}
use native.Mathlib.Omega.{arith}
use native.Mathlib.Nat.{mul-le-mul_left}
use Rattle.model.specs.Series.{sum}
use Rattle.model.specs.Tasks.{Tasks, Valid}
use Rattle.model.specs.Arrival.{arrivals}
use Rattle.model.proofs.SeriesLaws.{sum_le, sum_add}
use Rattle.response.proofs.ArrivalLaws.{arrivals_mono, arrivals_add}

-- the periods of the tasks above i are at least 1
abbrev pub Periodic : Tasks → ℕ → Type 0
Periodic s i = (j : ℕ) → j < i → 1 ≤ s.period j

-- the tasks above a task of a sheet within the limits have a period
pub above_periods : (s : Tasks) → Valid s → (i : ℕ) → i < s.count → Periodic s i
above_periods s v i l j g = (v.in_range_lem j (omega arith)).period_low

-- the load × σ(t) of task j
abbrev pub load_in : (ℕ → ℕ) → (ℕ → ℕ) → (ℕ → ℕ) → ℕ → ℕ → ℕ
load_in C P K t j = C j * arrivals (P j) (K j) t

-- with no less kept jitter and in no fewer ticks they bring no less
pub loads_rise
    : (C P K J : ℕ → ℕ) (i : ℕ) → ((j : ℕ) → j < i → 1 ≤ P j) → ((j : ℕ) → j < i → K j ≤ J j)
    → (t u : ℕ) → t ≤ u → sum (load_in C P K t) i ≤ sum (load_in C P J u) i
loads_rise C P K J i periods kept t u h =
    sum_le _ _ i (λ j g. mul-le-mul_left (C j) (arrivals_mono (P j) (K j) (J j) t u (periods j g) (kept j g) h))

module _ (C P K : ℕ → ℕ) (i : ℕ) (periods : (j : ℕ) → j < i → 1 ≤ P j) where
  -- no more in t + u ticks than in t and in u
  pub loads_add : (t u : ℕ) → sum (load_in C P K (t + u)) i ≤ sum (load_in C P K t) i + sum (load_in C P K u) i
  loads_add t u =
      omega (
        arith,
        sum_add (load_in C P K t) (load_in C P K u) (λ j. load_in C P K t j + load_in C P K u j) i (λ j g. refl),
        sum_le (load_in C P K (t + u)) (λ j. load_in C P K t j + load_in C P K u j) i (λ j g. each j (periods j g)),
      )
    where
      each : (j : ℕ) → 1 ≤ P j → load_in C P K (t + u) j ≤ load_in C P K t j + load_in C P K u j
      each j h = omega (arith, mul-le-mul_left (C j) (arrivals_add (P j) (K j) h t u))
