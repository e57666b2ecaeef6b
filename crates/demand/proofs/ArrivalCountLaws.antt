-- Laws of the arrival count.
use Prim.Native.Nat.{ℕ, zero, suc, ◌+◌, ◌-◌, ◌/◌, ◌≤◌}
use mathlib.Core.Path.{◌≡◌, refl}
use native.Mathlib.Omega.{arith}
use native.Mathlib.Nat.{le-div_iff_mul-le}
use Rattle.model.specs.Arrival.{ceil_div, arrivals}

-- from one tick on, the count is a quotient rounded up
pub arrivals_ceil : (P K t : ℕ) → 1 ≤ t → arrivals P K t ≡ ceil_div (t + K) P
unfolding arrivals
arrivals_ceil P K zero h = absurd (omega arith)
arrivals_ceil P K (suc t) h = refl

-- the same with the quotient written out
pub arrivals_at : (P K t : ℕ) → 1 ≤ t → arrivals P K t ≡ (t + K + P - 1) / P
unfolding ceil_div
arrivals_at P K t h = arrivals_ceil P K t h

-- none in 0 ticks
pub arrivals_none : (P K : ℕ) → arrivals P K 0 ≡ 0
unfolding arrivals
arrivals_none P K = refl

-- at least one arrives in one tick or more
pub arrivals_some : (P K t : ℕ) → 1 ≤ P → 1 ≤ t → 1 ≤ arrivals P K t
arrivals_some P K t p h = rw (arrivals_at P K t h) ((le-div_iff_mul-le p).1 (omega arith))
