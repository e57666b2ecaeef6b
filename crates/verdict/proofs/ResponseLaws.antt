-- The response bound, computed in signed 64 bits: x = J − qP, and R(q) where it is not below 1.
use Prim.Native.Nat.{ℕ, ◌+◌, ◌-◌, ◌*◌, ◌≤◌, ◌<◌}
use mathlib.Core.Path.{◌≡◌, refl, ap, ap₂, ◌∙◌}
use mathlib.Core.Logic.{dite}
use native.Mathlib.Omega.{arith}
use native.Mathlib.Decide.{dec_le}
use borrow.Author.Tests.{le-ltb}
use lib.IntN.{ℤ, pos, ◌+ℤ◌, ◌-ℤ◌, ◌*ℤ◌}
use lib.Signed.{mag}
use mir.Syntax.{w64}
use mir.Val.{SFits, to_z, of_z}
use Rattle.std.specs.Int.{int_max, int_min}
use Rattle.model.specs.Processor.{pickup}
use Rattle.model.specs.Bound.{max_z, min_z, offset, bound}
use Rattle.response.proofs.BoundLaws.{bound_up, bound_down}
use Rattle.verdict.specs.Walking.{Met}
use Rattle.verdict.proofs.SignedLaws.{back, plain, difference_mag, difference_less, product, product_small}

-- the larger and the smaller of two integers, as the library has them
max_is : (a b : ℤ) → int_max b a ≡ max_z a b
unfolding max_z
max_is a b = refl

min_is : (a b : ℤ) → int_min b a ≡ min_z a b
unfolding min_z
min_is a b = refl

module _ (P J q : ℕ) (p : P ≤ 1000000) (j : J < 4294967296) (h : q ≤ 10000000) where
  -- q × P
  pub product_fits : SFits w64 (to_z w64 q *ℤ to_z w64 P)
  product_fits = rw (product q P h p) (record { sfits = omega (arith, product_small q P h p) })

  -- x as the code computes it
  pub offset_sum : to_z w64 J -ℤ to_z w64 (of_z w64 (to_z w64 q *ℤ to_z w64 P)) ≡ offset P J q
  unfolding offset
  offset_sum = rw (product q P h p, back (pos (q * P)) (omega (arith, product_small q P h p)), plain J (omega arith))

  -- x fits
  pub offset_mag : mag (offset P J q) < 9223372036854775808
  unfolding offset
  offset_mag = difference_mag J (q * P) (omega arith) (omega (arith, product_small q P h p))

  -- x − K fits
  pub offset_less_mag : (K : ℕ) → K ≤ 1000000 → mag (offset P J q -ℤ pos K) < 9223372036854775808
  unfolding offset
  offset_less_mag K k =
      rw (difference_less J (q * P) K) (difference_mag J (q * P + K) (omega arith) (omega (arith, product_small q P h p)))

-- R(q) as a natural number
abbrev pub response_of : ℕ → ℕ → ℕ → ℕ → ℕ → ℕ
response_of P J K q w = w + pickup + (J - (q * P + K)) - (q * P - J)

module _ (P J K q w : ℕ) (m : Met P J K q w) where
  -- it is the definition's
  pub response_is : bound P J K q w ≡ pos (response_of P J K q w)
  response_is =
      dite (dec_le (q * P) J)
      (λ h. bound_up P J K q w h ∙ ap pos (omega arith))
      (λ h. bound_down P J K q w (omega arith) ∙ rw (le-ltb (w + pickup) (q * P - J) (omega (arith, m.behind, m.keep_high))) (ap pos (omega arith)))

  -- at least 1
  pub response_low : 1 ≤ response_of P J K q w
  response_low = omega (arith, m.behind, m.keep_high)

  -- and far below 32 bits
  pub response_high : response_of P J K q w ≤ 11000001
  response_high = omega (arith, m.w_high, m.jitter_high)

  -- as the code computes it, x, min(0, x), the larger, and W(q) with the pickup being given
  pub response_sum : (x y z : ℤ) (n : ℕ)
      → mag x < 9223372036854775808
      → mag y < 9223372036854775808
      → mag z < 9223372036854775808
      → x ≡ offset P J q
      → y ≡ int_min (to_z w64 (of_z w64 x)) (pos 0)
      → z ≡ int_max (to_z w64 (of_z w64 y)) (to_z w64 (of_z w64 (to_z w64 (of_z w64 x) -ℤ to_z w64 K)))
      → n ≡ w + pickup
      → to_z w64 n +ℤ to_z w64 (of_z w64 z) ≡ pos (response_of P J K q w)
  unfolding bound
  response_sum x y z n hx hy hz ex ey ez en =
      ap₂ ◌+ℤ◌ (plain n (omega arith) ∙ ap pos en)
      (back z hz ∙ ez ∙ max_is _ _ ∙ ap₂ max_z less (back y hy ∙ ey ∙ min_is _ _ ∙ ap (min_z (pos 0)) (back x hx ∙ ex)))
      ∙ response_is
    where
      less : to_z w64 (of_z w64 (to_z w64 (of_z w64 x) -ℤ to_z w64 K)) ≡ offset P J q -ℤ pos K
      less =
          ap (λ (v : ℤ). to_z w64 (of_z w64 v)) (ap₂ ◌-ℤ◌ (back x hx ∙ ex) (plain K (omega arith)))
          ∙ back (offset P J q -ℤ pos K) (offset_less_mag P J q m.period_high (omega arith) m.q_high K (omega arith))
