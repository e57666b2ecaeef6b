-- Laws of the jobs of the tasks above task i and those of task i up to job n: what goes before none of them, and their work in a window.
use Prim.Native.Nat.{ℕ, ◌+◌, ◌*◌, ◌≤◌, ◌<◌}
use mathlib.Core.Path.{◌≡◌, sym, ◌∙◌}
use mathlib.Core.Bool.{Bool, true, false, ◌&&◌}
use mathlib.Core.Logic.{◌⊎◌, inl, inr}
use native.Mathlib.Nat.{mul-le-mul_left, le_trans}
use native.Mathlib.Omega.{arith}
use borrow.Author.Tests.{ltb-true, ltb-false, leb-true, eqb-true, lt-ltb, le-ltb, le-leb, eq-eqb, ne_eqb}
use lib.Dec.{leb, eqb}
use Rattle.model.specs.Series.{on, sum}
use Rattle.model.specs.Run.{Jobs}
use Rattle.model.specs.Claims.{is_above}
use Rattle.model.proofs.SeriesLaws.{le_or_lt, and_left, and_right, and_both, sum_scale}
use Rattle.theory.proofs.JobWindows.{place, win, of_those, Down, upto}
use Rattle.theory.proofs.PlaceLaws.{count_le}
use Rattle.theory.proofs.LoadLaws.{cap, in_window, in_low, in_high, win_add}

module _ (j : Jobs) (i n : ℕ) where
  -- the jobs of task i up to job n
  abbrev pub own_to : ℕ → Bool
  own_to p = eqb (j.task p) i && leb p n

  -- a job of task i up to n is one of them
  pub own_to_lem : (p : ℕ) → j.task p ≡ i → p ≤ n → own_to p ≡ true
  own_to_lem p e l = and_both (eqb (j.task p) i) (leb p n) (eq-eqb (j.task p) i e) (le-leb p n l)

  -- each of them is of task i
  pub own_task : (p : ℕ) → own_to p ≡ true → j.task p ≡ i
  own_task p h = eqb-true (j.task p) i (and_left (eqb (j.task p) i) (leb p n) h)

  -- and not after n
  pub own_le : (p : ℕ) → own_to p ≡ true → p ≤ n
  own_le p h = leb-true p n (and_right (eqb (j.task p) i) (leb p n) h)

  -- a job of a task above is in the set
  pub upto_above : (p : ℕ) → j.task p < i → upto j i n p ≡ true
  unfolding upto
  upto_above p l = rw (lt-ltb (j.task p) i l)

  -- another is where it is of task i, up to n
  pub upto_own : (p : ℕ) → i ≤ j.task p → upto j i n p ≡ own_to p
  unfolding upto
  upto_own p l = rw (le-ltb (j.task p) i l)

  -- the set holds every job that goes before one of its jobs
  pub upto_down : Down j (upto j i n)
  upto_down p q h b = go (le_or_lt i (j.task p))
    where
      go : (i ≤ j.task p) ⊎ (j.task p < i) → upto j i n p ≡ true
      go (inr l) = upto_above p l
      go (inl l) =
          let e : own_to q ≡ true = sym (upto_own q (omega arith)) ∙ h in
          let f : j.task p ≡ i = omega (arith, own_task q e) in
          upto_own p l ∙ own_to_lem p f (omega (arith, own_le q e, b.1 (omega (arith, own_task q e))))

  -- the work of the set in a window
  pub win_upto : (s t : ℕ) → win j (of_those j (is_above i)) s t + win j own_to s t ≡ win j (upto j i n) s t
  win_upto s t =
      win_add j s t (of_those j (is_above i)) own_to (upto j i n)
      (λ p e. (not_own p (ltb-true (j.task p) i e), upto_above p (ltb-true (j.task p) i e)))
      (λ p e. sym (upto_own p (ltb-false (j.task p) i e)))
    where
      not_own : (p : ℕ) → j.task p < i → own_to p ≡ false
      not_own p l = rw (ne_eqb (j.task p) i (λ (e : j.task p ≡ i). omega arith))

  -- the work of task i up to job n in a window in which its places lie from b on, below b + c
  pub win_queue : (s t b c C : ℕ)
      → ((p : ℕ) → p < j.count → j.task p ≡ i → j.work p ≤ C)
      → ((p : ℕ) → p < j.count → j.task p ≡ i → p ≤ n → s ≤ j.start p → j.start p < s + t
      → (b ≤ place j.task i p) × (place j.task i p < b + c))
      → win j own_to s t ≤ C * c
  unfolding win
  win_queue s t b c C hw h =
      le_trans (sum_scale _ (λ p. on (inside p) 1) C j.count (λ p l. cap (inside p) (j.work p) C (λ e. hw p l (task_of_lem p e))))
      (mul-le-mul_left C few)
    where
      inside : ℕ → Bool
      inside p = own_to p && in_window j s t p

      task_of_lem : (p : ℕ) → (own_to p && in_window j s t p) ≡ true → j.task p ≡ i
      task_of_lem p e = own_task p (and_left (own_to p) (in_window j s t p) e)

      facts : (p : ℕ) → p < j.count → (own_to p && in_window j s t p) ≡ true
          → (j.task p ≡ i) × (b ≤ place j.task i p) × (place j.task i p < b + c)
      facts p l e =
          let k : in_window j s t p ≡ true = and_right (own_to p) (in_window j s t p) e in
          let r : (b ≤ place j.task i p) × (place j.task i p < b + c) =
          h p l (task_of_lem p e) (own_le p (and_left (own_to p) (in_window j s t p) e)) (in_low j s t p k) (in_high j s t p k) in
          (task_of_lem p e, r.0, r.1)

      few : sum (λ p. on (inside p) 1) j.count ≤ c
      few = (count_le j.task i inside b c j.count facts).0
