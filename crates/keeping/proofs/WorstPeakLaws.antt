-- The test of a response bound against a natural number, and the largest of several bounds.
use Prim.Native.Nat.{ℕ, zero, suc, ◌+◌, ◌-◌, ◌*◌, ◌≤◌}
use mathlib.Core.Path.{◌≡◌, refl, ap, ◌∙◌}
use mathlib.Core.Logic.{⊎_elim, dite}
use mathlib.Core.Bool.{Bool, true, false}
use mathlib.Core.Option.{none}
use native.Mathlib.Omega.{arith}
use native.Mathlib.Nat.{eq-or-lt_of_le}
use native.Mathlib.Decide.{dec_le}
use borrow.Author.Tests.{le-ltb, ltb-false}
use lib.IntN.{ℤ, pos, negsuc}
use lib.Signed.{lt_z}
use Rattle.model.specs.Processor.{pickup}
use Rattle.model.specs.Bound.{bound}
use Rattle.model.specs.Tasks.{Tasks}
use Rattle.model.specs.Verdict.{peak, is_late, bound_of}
use Rattle.response.proofs.BoundLaws.{late_test, bound_up, bound_down}

module _ (P J K q w : ℕ) where
  -- a bound that is not over m
  pub bound_under : (m : ℕ) → w + pickup + (J - (q * P + K)) ≤ m + (q * P - J) → lt_z (pos m) (bound P J K q w) ≡ false
  unfolding is_late bound_of
  bound_under m h = late_test alone (λ j. K) 0 q w ∙ le-ltb _ _ h
    where
      alone : Tasks
      alone = record { count = 1; period = λ j. P; jitter = λ j. J; cost = λ j. 1; deadline = λ j. m; low = λ j. false; charge = 0; frame = none }

  -- and one that is m
  pub bound_equal : (m : ℕ) → w + pickup + (J - (q * P + K)) ≡ m + (q * P - J) → bound P J K q w ≡ pos m
  bound_equal m h =
      dite (dec_le (q * P) J) (λ l. let e : w + pickup + (J - (q * P + K)) ≡ m = omega arith in bound_up P J K q w l ∙ ap pos e)
      (λ l.
      let e : w + pickup - (q * P - J) ≡ m = omega arith in
      bound_down P J K q w (omega arith) ∙ rw (le-ltb (w + pickup) (q * P - J) (omega arith)) (ap pos e))

-- the largest of f 0, .., f n is at most m where each is
pub peak_le : (f : ℕ → ℤ) (n m : ℕ) → ((q : ℕ) → q ≤ n → lt_z (pos m) (f q) ≡ false) → lt_z (pos m) (peak f n).value ≡ false
unfolding peak
peak_le f zero m h = h 0 (omega arith)
peak_le f (suc n) m h = go (lt_z (peak f n).value (f (suc n))) refl (peak_le f n m (λ q l. h q (omega arith)))
  where
    go : (b : Bool) → lt_z (peak f n).value (f (suc n)) ≡ b → lt_z (pos m) (peak f n).value ≡ false → lt_z (pos m) (peak f (suc n)).value ≡ false
    go true e ih = rw (peak, e) (h (suc n) (omega arith))
    go false e ih = rw (peak, e) ih

neither_below : (v : ℤ) (m : ℕ) → lt_z (pos m) v ≡ false → lt_z v (pos m) ≡ false → v ≡ pos m
neither_below (pos n) m a b = ap pos (omega (arith, ltb-false m n a, ltb-false n m b))
neither_below (negsuc n) m a b = let z : ◌≡◌ {A = ℕ} 0 1 = cc in absurd (omega arith)

-- the larger of two integers, of which one is pos m and the other is not above it
step_here : (f : ℕ → ℤ) (n m : ℕ) → lt_z (pos m) (peak f n).value ≡ false → f (suc n) ≡ pos m → (peak f (suc n)).value ≡ pos m
unfolding peak
step_here f n m h e = go (lt_z (peak f n).value (f (suc n))) refl
  where
    go : (b : Bool) → lt_z (peak f n).value (f (suc n)) ≡ b → (peak f (suc n)).value ≡ pos m
    go true d = rw (peak, d) e
    go false d = rw (peak, d) (neither_below _ m h (rw e at d))

step_before : (f : ℕ → ℤ) (n m : ℕ) → (peak f n).value ≡ pos m → lt_z (pos m) (f (suc n)) ≡ false → (peak f (suc n)).value ≡ pos m
unfolding peak
step_before f n m e h = let d : lt_z (peak f n).value (f (suc n)) ≡ false = rw e h in rw (peak, d) e

-- and it is m where one of them is
pub peak_is : (f : ℕ → ℤ) (n m q : ℕ) → ((x : ℕ) → x ≤ n → lt_z (pos m) (f x) ≡ false) → q ≤ n → f q ≡ pos m → (peak f n).value ≡ pos m
unfolding peak
peak_is f zero m q h l e = let z : q ≡ 0 = omega arith in rw z at e
peak_is f (suc n) m q h l e =
    ⊎_elim (λ d. step_here f n m (peak_le f n m (λ x g. h x (omega arith))) (rw d at e))
    (λ d. step_before f n m (peak_is f n m q (λ x g. h x (omega arith)) (omega arith) e) (h (suc n) (omega arith)))
    (eq-or-lt_of_le l)
