-- Laws of the work that starts in a window: of one task at most its count of jobs, of the tasks above the sum of theirs.
use Prim.Native.Nat.{ℕ, zero, suc, ◌+◌, ◌-◌, ◌*◌, ◌≤◌, ◌<◌}
use mathlib.Core.Path.{◌≡◌, refl, sym, ◌∙◌}
use mathlib.Core.Bool.{Bool, true, false, ◌&&◌}
use mathlib.Core.Logic.{◌⊎◌, inl, inr}
use native.Mathlib.Nat.{mul-le-mul_left, lt_of_lt_of_le, le-add_right, le_antisymm, le_trans}
use native.Mathlib.Omega.{arith}
use borrow.Author.Tests.{ltb-true, ltb-false, leb-true, eqb-true, eqb-false, lt-ltb, le-ltb, le-leb, lt-leb, ne_eqb}
use lib.Dec.{ltb, leb, eqb}
use Rattle.model.specs.Series.{on, sum}
use Rattle.model.specs.Run.{Jobs}
use Rattle.model.specs.Claims.{is_task, is_above}
use Rattle.model.proofs.SeriesLaws.{le_by, le_or_lt, clash, and_left, and_right, and_both, on_false, on_nil, sum_add, sum_nil, sum_scale}
use Rattle.theory.proofs.JobWindows.{place, Spaced, Bounded, came, win, of_those}
use Rattle.theory.proofs.PlaceLaws.{first_refusal, place_mono, count_le}

-- work that starts before a window, in it, and before its end
cut : (a x y z : Bool) (w : ℕ)
    → (x ≡ true → y ≡ false)
    → (x ≡ true → z ≡ true)
    → (x ≡ false → y ≡ true)
    → on (a && x) w + on (a && (y && z)) w ≡ on (a && z) w
unfolding on
cut true true y z w h f g = rw (h refl, f refl) (omega arith)
cut true false y z w h f g = rw (g refl) (omega arith)
cut false x y z w h f g = refl

-- two sets that part a set
join : (a b c t : Bool) (w : ℕ)
    → (a ≡ true → (b ≡ false) × (c ≡ true))
    → (a ≡ false → b ≡ c)
    → on (a && t) w + on (b && t) w ≡ on (c && t) w
unfolding on
join true b c t w h f = rw ((h refl).0, (h refl).1) (omega arith)
join false b c t w h f = rw (f refl) (omega arith)

-- a term of a set under a bound
pub cap : (a : Bool) (w c : ℕ) → (a ≡ true → w ≤ c) → on a w ≤ c * on a 1
unfolding on
cap true w c h = omega (arith, h refl)
cap false w c h = omega arith

-- the start of a job lies in a window
abbrev pub in_window : Jobs → ℕ → ℕ → ℕ → Bool
in_window j s t p = leb s (j.start p) && ltb (j.start p) (s + t)

module _ (j : Jobs) (s t : ℕ) where
  -- what has come before a window and what comes in it
  pub came_win : (u : ℕ → Bool) → came j u s + win j u s t ≡ came j u (s + t)
  unfolding came win
  came_win u =
      sum_add _ _ _ j.count (λ p l. cut (u p) (ltb (j.start p) s) (leb s (j.start p)) (ltb (j.start p) (s + t)) (j.work p)
      (λ e. lt-leb s (j.start p) (ltb-true (j.start p) s e))
      (λ e. lt-ltb (j.start p) (s + t) (lt_of_lt_of_le (ltb-true (j.start p) s e) (le-add_right s t)))
      (λ e. le-leb s (j.start p) (ltb-false (j.start p) s e)))

  -- a set in two parts
  pub win_add : (u v x : ℕ → Bool) → ((p : ℕ) → u p ≡ true → (v p ≡ false) × (x p ≡ true)) → ((p : ℕ) → u p ≡ false → v p ≡ x p)
      → win j u s t + win j v s t ≡ win j x s t
  unfolding win
  win_add u v x h f = sum_add _ _ _ j.count (λ p l. join (u p) (v p) (x p) (in_window j s t p) (j.work p) (h p) (f p))

  -- a set with no job
  pub win_nil : (u : ℕ → Bool) → ((p : ℕ) → u p ≡ false) → win j u s t ≡ 0
  unfolding win
  win_nil u h = sum_nil _ j.count (λ p l. on_nil (u p && in_window j s t p) (j.work p) (λ e. clash (u p) (and_left _ _ e) (h p)))

  -- a job that starts at s or later, and before s + t, starts in the window
  pub in_window_lem : (p : ℕ) → s ≤ j.start p → j.start p < s + t → in_window j s t p ≡ true
  in_window_lem p a b = and_both (leb s (j.start p)) (ltb (j.start p) (s + t)) (le-leb s (j.start p) a) (lt-ltb (j.start p) (s + t) b)

  -- a job whose start lies in the window starts at s or later
  pub in_low : (p : ℕ) → in_window j s t p ≡ true → s ≤ j.start p
  in_low p e = leb-true _ _ (and_left _ _ e)

  -- and before s + t
  pub in_high : (p : ℕ) → in_window j s t p ≡ true → j.start p < s + t
  in_high p e = ltb-true _ _ (and_right (leb s (j.start p)) _ e)

  -- a job of task i that starts in the window
  abbrev own_in : ℕ → ℕ → Bool
  own_in i p = of_those j (is_task i) p && in_window j s t p

  -- jobs of a task with gaps g: at most c of them start in t ticks
  pub count_own : (i : ℕ) (g : ℕ → ℕ) (c : ℕ) → Spaced j i g → (0 < t → 0 < c) → ((k : ℕ) → g k < t → k < c)
      → sum (λ p. on (of_those j (is_task i) p && in_window j s t p) 1) j.count ≤ c
  count_own i g c sp h0 h = go (first_refusal (own_in i) j.count)
    where
      own : (p : ℕ) → own_in i p ≡ true → j.task p ≡ i
      own p e = eqb-true _ _ (and_left _ _ e)

      low : (p : ℕ) → own_in i p ≡ true → s ≤ j.start p
      low p e = in_low p (and_right (of_those j (is_task i) p) _ e)

      high : (p : ℕ) → own_in i p ≡ true → j.start p < s + t
      high p e = in_high p (and_right (of_those j (is_task i) p) _ e)

      near : (m p : ℕ) → own_in i m ≡ true → own_in i p ≡ true → p < j.count → (p < m → ⊥) → (p ≤ m) ⊎ (m < p)
          → (j.task p ≡ i) × (place j.task i m ≤ place j.task i p) × (place j.task i p < place j.task i m + c)
      near m p a b l f (inl d) =
          let e : p ≡ m = le_antisymm d (le_by m p f) in
          rw e (own m a, omega arith, omega (arith, h0 (omega (arith, low m a, high m a))))
      near m p a b l f (inr d) =
          let k : j.start m + g (place j.task i p - place j.task i m) ≤ j.start p = sp m p d l (own m a) (own p b) in
          let up : place j.task i m ≤ place j.task i p = place_mono j.task i m p (omega arith) in
          (own p b, up, omega (arith, h (place j.task i p - place j.task i m) (omega (arith, low m a, high p b))))

      go : ((p : ℕ) → p < j.count → own_in i p ≡ false) ⊎ ((p : ℕ) × (p < j.count) × (own_in i p ≡ true) × ((x : ℕ) → x < p → own_in i x ≡ false))
          → sum (λ p. on (of_those j (is_task i) p && in_window j s t p) 1) j.count ≤ c
      go (inl e) = omega (arith, sum_nil _ j.count (λ p l. on_false (own_in i p) 1 (e p l)))
      go (inr (m, l, e, f)) =
          (count_le j.task i (own_in i) (place j.task i m) c j.count
          (λ p a b. near m p e b a (λ d. clash (own_in i p) b (f p d)) (le_or_lt p m))).0

  -- so their work is at most C × c
  pub win_own : (i C : ℕ) (g : ℕ → ℕ) (c : ℕ)
      → ((p : ℕ) → p < j.count → j.task p ≡ i → j.work p ≤ C)
      → Spaced j i g
      → (0 < t → 0 < c)
      → ((k : ℕ) → g k < t → k < c)
      → win j (of_those j (is_task i)) s t ≤ C * c
  unfolding win
  win_own i C g c hw sp h0 h =
      le_trans (sum_scale _ (λ p. on (own_in i p) 1) C j.count (λ p l. cap (own_in i p) (j.work p) C (λ e. hw p l (eqb-true _ _ (and_left _ _ e)))))
      (mul-le-mul_left C (count_own i g c sp h0 h))

  -- the tasks above suc i are those above i, and i
  pub above_suc : (i : ℕ) → win j (of_those j (is_above i)) s t + win j (of_those j (is_task i)) s t ≡ win j (of_those j (is_above (suc i))) s t
  above_suc i =
      win_add (of_those j (is_above i)) (of_those j (is_task i)) (of_those j (is_above (suc i)))
      (λ p e. both p (ltb-true (j.task p) i e))
      (λ p e. only p (ltb-false (j.task p) i e) (eqb (j.task p) i) refl)
    where
      both : (p : ℕ) → j.task p < i → (eqb (j.task p) i ≡ false) × (ltb (j.task p) (suc i) ≡ true)
      both p l = (ne_eqb (j.task p) i (λ (h : j.task p ≡ i). omega arith), lt-ltb (j.task p) (suc i) (omega arith))

      only : (p : ℕ) → i ≤ j.task p → (b : Bool) → eqb (j.task p) i ≡ b → eqb (j.task p) i ≡ ltb (j.task p) (suc i)
      only p l true e = e ∙ sym (lt-ltb (j.task p) (suc i) (omega (arith, eqb-true (j.task p) i e)))
      only p l false e = e ∙ sym (le-ltb (j.task p) (suc i) (omega (arith, eqb-false (j.task p) i e)))

  -- the work of the tasks above i
  pub win_above : (i : ℕ) (C : ℕ → ℕ) (g c : ℕ → ℕ → ℕ) → Bounded j i C g c → win j (of_those j (is_above i)) s t ≤ sum (λ k. C k * c k t) i
  unfolding sum
  win_above zero C g c b = omega (arith, none)
    where
      none : win j (of_those j (is_above 0)) s t ≡ 0
      none = win_nil (of_those j (is_above 0)) (λ p. le-ltb (j.task p) 0 (omega arith))
  win_above (suc i) C g c b = omega (arith, above_suc i, win_above i C g c fewer, this)
    where
      fewer : Bounded j i C g c
      fewer = record {
        most_work = λ p l h. b.most_work p l (omega arith);
        spaced = λ k l. b.spaced k (omega arith);
        zero_gap = λ k l. b.zero_gap k (omega arith);
        counted = λ k n x l. b.counted k n x (omega arith);
      }

      bound : (p : ℕ) → p < j.count → j.task p ≡ i → j.work p ≤ C i
      bound p l e = rw e at (b.most_work p l (omega arith))

      this : win j (of_those j (is_task i)) s t ≤ C i * c i t
      this =
          win_own i (C i) (g i) (c i t) bound (b.spaced i (omega arith))
          (λ l. b.counted i t 0 (omega arith) (omega (arith, b.zero_gap i (omega arith))))
          (λ k. b.counted i t k (omega arith))
