-- Laws of places: the jobs of one task, counted by their places.
use Prim.Native.Nat.{ℕ, zero, suc, ◌+◌, ◌-◌, ◌≤◌, ◌<◌, min}
use mathlib.Core.Path.{◌≡◌, refl}
use mathlib.Core.Bool.{Bool, true, false}
use mathlib.Core.Logic.{◌⊎◌, inl, inr}
use native.Mathlib.Omega.{arith}
use borrow.Author.Tests.{eqb-true, eqb-false, eq-eqb, ne_eqb}
use lib.Dec.{eqb}
use Rattle.model.specs.Series.{on, sum}
use Rattle.model.proofs.SeriesLaws.{below_suc, le_or_lt, on_true, on_false, on_le, sum_longer}
use Rattle.theory.proofs.JobWindows.{place}

-- the first member of a set below n, or none
pub first_refusal : (v : ℕ → Bool) (n : ℕ)
    → ((p : ℕ) → p < n → v p ≡ false) ⊎ ((p : ℕ) × (p < n) × (v p ≡ true) × ((x : ℕ) → x < p → v x ≡ false))
first_refusal v zero = inl (λ p l. absurd (omega arith))
first_refusal v (suc n) = go (first_refusal v n) (v n) refl
  where
    all : ((p : ℕ) → p < n → v p ≡ false) → v n ≡ false → (p : ℕ) → (p < n) ⊎ (p ≡ n) → v p ≡ false
    all h e p (inl l) = h p l
    all h e p (inr q) = rw q e

    go : ((p : ℕ) → p < n → v p ≡ false) ⊎ ((p : ℕ) × (p < n) × (v p ≡ true) × ((x : ℕ) → x < p → v x ≡ false)) → (b : Bool) → v n ≡ b
        → ((p : ℕ) → p < suc n → v p ≡ false) ⊎ ((p : ℕ) × (p < suc n) × (v p ≡ true) × ((x : ℕ) → x < p → v x ≡ false))
    go (inl h) true e = inr (n, omega arith, e, h)
    go (inl h) false e = inl (λ p l. all h e p (below_suc p n l))
    go (inr (p, l, h, f)) b e = inr (p, omega arith, h, f)

module _ (task : ℕ → ℕ) (i : ℕ) where
  -- before the first job there is none
  pub place_zero : place task i 0 ≡ 0
  unfolding place sum
  place_zero = refl

  -- one more job
  pub place_suc : (n : ℕ) → place task i (suc n) ≡ place task i n + on (eqb (task n) i) 1
  unfolding place sum
  place_suc n = refl

  -- one more job of the task
  pub place_own : (n : ℕ) → task n ≡ i → place task i (suc n) ≡ suc (place task i n)
  place_own n e = omega (arith, place_suc n, on_true (eqb (task n) i) 1 (eq-eqb _ _ e))

  -- one more job of another task
  pub place_other : (n : ℕ) → (task n ≡ i → ⊥) → place task i (suc n) ≡ place task i n
  place_other n e = omega (arith, place_suc n, on_false (eqb (task n) i) 1 (ne_eqb _ _ e))

  -- places never fall
  pub place_mono : (m n : ℕ) → m ≤ n → place task i m ≤ place task i n
  unfolding place
  place_mono m n h = sum_longer _ m n h

  -- and rise behind a job of the task
  pub place_rise : (m n : ℕ) → m < n → task m ≡ i → place task i m < place task i n
  place_rise m n h e = omega (arith, place_own m e, place_mono (suc m) n h)

  -- jobs of the task with places from b on, below b + c, are at most c
  pub count_le : (v : ℕ → Bool) (b c n : ℕ)
      → ((p : ℕ) → p < n → v p ≡ true → (task p ≡ i) × (b ≤ place task i p) × (place task i p < b + c))
      → (sum (λ p. on (v p) 1) n ≤ c) × (sum (λ p. on (v p) 1) n ≤ place task i n - b)
  unfolding sum
  count_le v b c zero h = omega arith
  count_le v b c (suc n) h = go (v n) refl (count_le v b c n (λ p l. h p (omega arith)))
    where
      go : (t : Bool) → v n ≡ t → (sum (λ p. on (v p) 1) n ≤ c) × (sum (λ p. on (v p) 1) n ≤ place task i n - b)
          → (sum (λ p. on (v p) 1) n + on (v n) 1 ≤ c) × (sum (λ p. on (v p) 1) n + on (v n) 1 ≤ place task i (suc n) - b)
      go true e k =
          let f : (task n ≡ i) × (b ≤ place task i n) × (place task i n < b + c) = h n (omega arith) e in
          omega (arith, on_le (v n) 1, place_own n f.0)
      go false e k = omega (arith, on_false (v n) 1 e, place_mono n (suc n) (omega arith))

  -- a set that holds the jobs of the task with places from b on, below b + c, has at least as many as there are
  pub count_ge : (v : ℕ → Bool) (b c n : ℕ)
      → ((p : ℕ) → p < n → task p ≡ i → b ≤ place task i p → place task i p < b + c → v p ≡ true)
      → min (place task i n - b) c ≤ sum (λ p. on (v p) 1) n
  unfolding sum
  count_ge v b c zero h = omega (arith, place_zero)
  count_ge v b c (suc n) h = go (eqb (task n) i) refl (le_or_lt b (place task i n)) (le_or_lt (b + c) (place task i n)) (count_ge v b c n (λ p l. h p (omega arith)))
    where
      go : (t : Bool) → eqb (task n) i ≡ t → (b ≤ place task i n) ⊎ (place task i n < b) → (b + c ≤ place task i n) ⊎ (place task i n < b + c)
          → min (place task i n - b) c ≤ sum (λ p. on (v p) 1) n
          → min (place task i (suc n) - b) c ≤ sum (λ p. on (v p) 1) n + on (v n) 1
      go false e x y k = omega (arith, place_other n (eqb-false _ _ e))
      go true e (inl x) (inl y) k = omega (arith, place_own n (eqb-true _ _ e))
      go true e (inr x) y k = omega (arith, place_own n (eqb-true _ _ e))
      go true e (inl x) (inr y) k = omega (arith, place_own n (eqb-true _ _ e), on_true (v n) 1 (h n (omega arith) (eqb-true _ _ e) x y))
