-- Arrival counts and gaps: k < σ(t) exactly where d_K(k) < t.
use Prim.Native.Nat.{ℕ, zero, suc, ◌+◌, ◌-◌, ◌*◌, ◌≤◌, ◌<◌}
use native.Mathlib.Omega.{arith}
use native.Mathlib.Nat.{le-div_iff_mul-le}
use Rattle.model.specs.Arrival.{ceil_div, arrivals}
use Rattle.model.specs.Gap.{gap}
use Rattle.model.proofs.SeriesLaws.{le_by}

module _ (P K : ℕ) (h : 0 < P) where
  -- a gap below t is one of the arrivals in t ticks
  pub gap_arrivals : (k t : ℕ) → gap P K k < t → k < arrivals P K t
  unfolding gap arrivals ceil_div
  gap_arrivals k zero g = absurd (omega arith)
  gap_arrivals k (suc t) g = (le-div_iff_mul-le {x = suc k} {y = suc t + K + P - 1} h).1 (omega arith)

  -- and back
  pub arrivals_gap : (k t : ℕ) → k < arrivals P K t → gap P K k < t
  unfolding gap arrivals ceil_div
  arrivals_gap k zero g = absurd (omega arith)
  arrivals_gap k (suc t) g = let u : suc k * P ≤ suc t + K + P - 1 = (le-div_iff_mul-le {x = suc k} {y = suc t + K + P - 1} h).0 g in omega arith

  -- arrivals in two windows in a row are no fewer than in both together
  pub arrivals_add : (t u : ℕ) → arrivals P K (t + u) ≤ arrivals P K t + arrivals P K u
  unfolding gap
  arrivals_add t u = le_by (arrivals P K (t + u)) (arrivals P K t + arrivals P K u) wrong
    where
      over : (n : ℕ) → n ≤ gap P K (arrivals P K n)
      over n = le_by n (gap P K (arrivals P K n)) (λ l. omega (arith, gap_arrivals (arrivals P K n) n l))

      wrong : arrivals P K t + arrivals P K u < arrivals P K (t + u) → ⊥
      wrong l = omega (arith, arrivals_gap (arrivals P K t + arrivals P K u) (t + u) l, over t, over u)

-- more ticks, and more kept jitter, have more arrivals
pub arrivals_mono : (P K J t u : ℕ) → 0 < P → K ≤ J → t ≤ u → arrivals P K t ≤ arrivals P J u
unfolding gap
arrivals_mono P K J t u h j g =
    le_by (arrivals P K t) (arrivals P J u)
    (λ a. let b : gap P K (arrivals P J u) < t = arrivals_gap P K h (arrivals P J u) t a in
    omega (arith, gap_arrivals P J h (arrivals P J u) u (omega arith)))
