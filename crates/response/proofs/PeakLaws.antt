-- The largest of some integers, in the order of the integers.
use Prim.Native.Nat.{ℕ, zero, suc, ◌≤◌, ◌<◌}
use mathlib.Core.Path.{◌≡◌, refl}
use mathlib.Core.Logic.{◌⊎◌, inl, inr}
use mathlib.Core.Bool.{Bool, true, false}
use native.Mathlib.Omega.{arith}
use native.Mathlib.Nat.{le_trans}
use borrow.Author.Tests.{ltb-true}
use lib.Dec.{leb→le, le→leb}
use lib.IntN.{ℤ, pos, negsuc}
use lib.Signed.{lt_z, ◌≤ℤ◌, lt_z_no, ≤ℤ_refl}
use Rattle.model.specs.Verdict.{peak}
use Rattle.model.proofs.SeriesLaws.{clash, below_suc}

pub order_trans : (a b c : ℤ) → a ≤ℤ b → b ≤ℤ c → a ≤ℤ c
order_trans (pos a) (pos b) (pos c) h g = record { le = le→leb a c (le_trans (leb→le a b h.le) (leb→le b c g.le)) }
order_trans (pos a) (pos b) (negsuc c) h g = absurd g.le
order_trans (pos a) (negsuc b) c h g = absurd h.le
order_trans (negsuc a) b (pos c) h g = record { le = tt }
order_trans (negsuc a) (pos b) (negsuc c) h g = absurd g.le
order_trans (negsuc a) (negsuc b) (negsuc c) h g = record { le = le→leb c a (le_trans (leb→le c b g.le) (leb→le b a h.le)) }

-- what is not below is at least as large, and what is below is no larger
not_under : (a b : ℤ) → lt_z a b ≡ false → b ≤ℤ a
not_under a b h = lt_z_no {a = a} {b = b} (rw h tt)

under : (a b : ℤ) → lt_z a b ≡ true → a ≤ℤ b
under (pos a) (pos b) h = record { le = le→leb a b (omega (arith, ltb-true a b h)) }
under (pos a) (negsuc b) h = clash false h refl
under (negsuc a) (pos b) h = record { le = tt }
under (negsuc a) (negsuc b) h = record { le = le→leb b a (omega (arith, ltb-true b a h)) }

module _ (f : ℕ → ℤ) where
  peak_up : (n : ℕ) → lt_z (peak f n).value (f (suc n)) ≡ true → (peak f (suc n)).value ≡ f (suc n)
  unfolding peak
  peak_up n h = rw (peak, h)

  peak_stays : (n : ℕ) → lt_z (peak f n).value (f (suc n)) ≡ false → (peak f (suc n)).value ≡ (peak f n).value
  unfolding peak
  peak_stays n h = rw (peak, h)

  -- it is at most what all are at most
  pub peak_most : (n : ℕ) (z : ℤ) → ((x : ℕ) → x ≤ n → f x ≤ℤ z) → (peak f n).value ≤ℤ z
  unfolding peak
  peak_most zero z h = h 0 (omega arith)
  peak_most (suc n) z h = go (lt_z (peak f n).value (f (suc n))) refl (peak_most n z (λ x l. h x (omega arith)))
    where
      go : (b : Bool) → lt_z (peak f n).value (f (suc n)) ≡ b → (peak f n).value ≤ℤ z → (peak f (suc n)).value ≤ℤ z
      go true e i = rw (peak_up n e) (h (suc n) (omega arith))
      go false e i = rw (peak_stays n e) i

  -- and none is over it
  pub peak_over : (n x : ℕ) → x ≤ n → f x ≤ℤ (peak f n).value
  unfolding peak
  peak_over zero x l = let e : x ≡ 0 = omega arith in rw e (≤ℤ_refl (f 0))
  peak_over (suc n) x l = go (lt_z (peak f n).value (f (suc n))) refl (below_suc x (suc n) (omega arith)) (peak_over n x)
    where
      go : (b : Bool) → lt_z (peak f n).value (f (suc n)) ≡ b → (x < suc n) ⊎ (x ≡ suc n) → (x ≤ n → f x ≤ℤ (peak f n).value) → f x ≤ℤ (peak f (suc n)).value
      go true e (inl b) i = rw (peak_up n e) (order_trans (f x) (peak f n).value (f (suc n)) (i (omega arith)) (under (peak f n).value (f (suc n)) e))
      go true e (inr b) i = rw (peak_up n e, b) (≤ℤ_refl (f (suc n)))
      go false e (inl b) i = rw (peak_stays n e) (i (omega arith))
      go false e (inr b) i = rw (peak_stays n e, b) (not_under (peak f n).value (f (suc n)) e)
