-- Laws of the gap.
use Prim.Native.Nat.{ℕ, ◌+◌, ◌*◌, ◌≤◌}
use mathlib.Core.Path.{◌≡◌}
use native.Mathlib.Nat.{mul-le-mul_right}
use native.Mathlib.Omega.{arith}
use Rattle.model.specs.Gap.{gap}

module _ (P K : ℕ) where
  -- the gap to the job itself is 0
  pub gap_zero : gap P K 0 ≡ 0
  unfolding gap
  gap_zero = omega arith

  -- the gap grows with the number of places
  pub gap_mono : (k n : ℕ) → k ≤ n → gap P K k ≤ gap P K n
  unfolding gap
  gap_mono k n h = omega (arith, mul-le-mul_right P h)

  -- two gaps fit into the gap over all their places
  pub gap_super : (k n : ℕ) → gap P K k + gap P K n ≤ gap P K (k + n)
  unfolding gap
  gap_super k n = omega arith

  -- the gap is at most k periods
  pub gap_le : (k : ℕ) → gap P K k ≤ k * P
  unfolding gap
  gap_le k = omega arith

-- a larger kept jitter has smaller gaps
pub gap_keep : (P K J k : ℕ) → K ≤ J → gap P J k ≤ gap P K k
unfolding gap
gap_keep P K J k h = omega arith

-- a gap with the smaller kept jitter and one with the larger fit into the smaller's gap over all their places
pub gap_super_keep : (P K J k n : ℕ) → K ≤ J → gap P K k + gap P J n ≤ gap P K (k + n)
gap_super_keep P K J k n h = omega (arith, gap_super P K k n, gap_keep P K J n h)
