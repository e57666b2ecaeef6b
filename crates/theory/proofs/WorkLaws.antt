-- Laws of the work of a set of jobs: done, come, not done yet, and the ticks at which nothing is behind.
use Prim.Native.Nat.{ℕ, zero, suc, ◌+◌, ◌-◌, ◌≤◌, ◌<◌}
use mathlib.Core.Path.{◌≡◌, refl, sym, ◌∙◌}
use mathlib.Core.Bool.{Bool, true, false, ◌&&◌}
use mathlib.Core.Option.{Option, some, none, some-injective}
use mathlib.Core.Logic.{◌⊎◌, inl, inr}
use native.Mathlib.Nat.{eq-zero-or-pos, add-zero, add-suc}
use native.Mathlib.Omega.{arith}
use borrow.Author.Tests.{ltb-true, ltb-false, lt-ltb}
use lib.Dec.{ltb}
use Rattle.model.specs.Series.{on}
use Rattle.model.specs.Run.{Jobs, left_at, runs}
use Rattle.model.proofs.SeriesLaws.{below_suc, le_by, clash, and_left, and_right, on_true, on_false, on_nil, on_le, and_both, sum_eq, sum_add, sum_nil, sum_zero, sum_bump}
use Rattle.model.proofs.SupplyLaws.{supply_none, supply_next}
use Rattle.theory.proofs.JobWindows.{supply, done_by, came, back, of_set, ran, Down}
use Rattle.theory.proofs.RunLaws.{none_some, Picked, runs_some, runs_none, runs_off, left_same, left_other, left_step, left_le, left_later, left_early}

one_zero : ◌≡◌ {A = ℕ} 1 0 → ⊥
one_zero e = omega arith

-- work done and work left of a job that is in the set or not, and has started or not
split : (a b : Bool) (w l : ℕ) → l ≤ w → (b ≡ false → l ≡ w) → on a (w - l) + on (a && b) l ≡ on (a && b) w
unfolding on
split true true w l h f = omega arith
split true false w l h f = omega (arith, f refl)
split false b w l h f = refl

module _ (j : Jobs) (u : ℕ → Bool) where
  -- work done and work behind are the work that has come
  pub done_back : (t : ℕ) → done_by j u t + back j u t ≡ came j u t
  unfolding done_by back came
  done_back t =
      sum_add _ _ _ j.count (λ p l. split (u p) (ltb (j.start p) t) (j.work p) (left_at j t p) (left_le j t p) (λ e. left_early j t p (ltb-false _ _ e)))

  -- a tick in which no job of the set runs
  done_same : (t : ℕ) → ((p : ℕ) → p < j.count → u p ≡ true → runs j t ≡ some p → ⊥) → done_by j u (suc t) ≡ done_by j u t
  unfolding done_by on
  done_same t h = sum_eq _ _ j.count (λ p l. go p l (u p) refl)
    where
      go : (p : ℕ) → p < j.count → (b : Bool) → u p ≡ b → on b (j.work p - left_at j (suc t) p) ≡ on b (j.work p - left_at j t p)
      go p l true e = rw (left_other j t p (h p l e))
      go p l false e = refl

  -- a tick in which one does
  done_one : (t q : ℕ) → u q ≡ true → runs j t ≡ some q → done_by j u (suc t) ≡ suc (done_by j u t)
  unfolding done_by on
  done_one t q e r =
      sum_bump _ _ j.count q (runs_some j t q r).in_list
      (λ p l ne. rw (left_other j t p (λ h. ne (some-injective p q (sym h ∙ r)))))
      (rw e (omega (arith, left_same j t q r, left_le j t q)))

  -- a tick adds to the work done what ran in it
  pub done_suc : (t : ℕ) → done_by j u (suc t) ≡ done_by j u t + ran j u t
  unfolding ran on
  done_suc t = go (runs j t) refl
    where
      of : (q : ℕ) → runs j t ≡ some q → (b : Bool) → u q ≡ b → done_by j u (suc t) ≡ done_by j u t + on b 1
      of q r true e = omega (arith, done_one t q e r)
      of q r false e = omega (arith, done_same t (λ p l h g. clash (u q) (rw (some-injective p q (sym g ∙ r)) at h) e))

      go : (o : Option ℕ) → runs j t ≡ o → done_by j u (suc t) ≡ done_by j u t + on (of_set u o) 1
      go none r = omega (arith, done_same t (λ p l h g. none_some p (sym r ∙ g)))
      go (some q) r = of q r (u q) refl

  -- a job of the set runs only in a tick of ours
  pub ran_le : (t : ℕ) → ran j u t ≤ on (j.ours t) 1
  unfolding ran on
  ran_le t = go (j.ours t) refl
    where
      go : (b : Bool) → j.ours t ≡ b → on (of_set u (runs j t)) 1 ≤ on b 1
      go true e = on_le (of_set u (runs j t)) 1
      go false e = rw (runs_off j t e) (omega arith)

  -- where nothing is behind at t, the jobs that started before are finished
  pub finished : (t p : ℕ) → back j u t ≡ 0 → p < j.count → u p ≡ true → j.start p < t → left_at j t p ≡ 0
  unfolding back
  finished t p h l e s =
      let z : on (u p && ltb (j.start p) t) (left_at j t p) ≡ 0 = sum_zero _ j.count h p l in
      sym (on_true _ _ (and_both (u p) _ e (lt-ltb _ _ s))) ∙ z

  -- where those are finished nothing is behind
  pub back_zero : (t : ℕ) → ((p : ℕ) → p < j.count → u p ≡ true → j.start p < t → left_at j t p ≡ 0) → back j u t ≡ 0
  unfolding back
  back_zero t h = sum_nil _ j.count (λ p l. on_nil _ _ (λ e. h p l (and_left _ _ e) (ltb-true _ _ (and_right (u p) _ e))))

  -- at first nothing is behind
  pub back_start : back j u 0 ≡ 0
  back_start = back_zero 0 (λ p l e s. absurd (omega arith))

  -- a tick of ours in which no job of the set runs leaves nothing behind, if the set holds all jobs that go before its jobs
  pub idle : Down j u → (t : ℕ) → j.ours t ≡ true → ran j u t ≡ 0 → back j u (suc t) ≡ 0
  unfolding ran on
  idle down t o r = back_zero (suc t) (λ p l e s. go p l e s (runs j t) refl)
    where
      none_left : (p : ℕ) → left_at j t p ≡ 0 → left_at j (suc t) p ≡ 0
      none_left p h = omega (arith, left_step j t p)

      other : (p q : ℕ) → p < j.count → u p ≡ true → j.start p ≤ t → Picked j (left_at j t) t q → u q ≡ false → left_at j t p ≤ 0
      other p q l e s k f = le_by _ 0 (λ w. clash (u q) (down q p e (k.goes_first p l s w)) f)

      out : (q : ℕ) → runs j t ≡ some q → (b : Bool) → u q ≡ b → u q ≡ false
      out q g true e = absurd (one_zero (rw (g, e) at r))
      out q g false e = e

      go : (p : ℕ) → p < j.count → u p ≡ true → j.start p < suc t → (o : Option ℕ) → runs j t ≡ o → left_at j (suc t) p ≡ 0
      go p l e s none g = none_left p (runs_none j t o g p l (omega arith))
      go p l e s (some q) g = none_left p (omega (arith, other p q l e (omega arith) (runs_some j t q g) (out q g (u q) refl)))

  -- no more is done in a window than its supply
  pub done_le : (s t : ℕ) → done_by j u (s + t) ≤ done_by j u s + supply j s t
  done_le s zero = rw (add-zero s) (omega arith)
  done_le s (suc t) = rw (add-suc s t) (omega (arith, supply_next j.ours s t, done_le s t, done_suc (s + t), ran_le (s + t)))

  -- a tick after s, at s + t or before, at which nothing is behind
  abbrev pub Quiet : ℕ → ℕ → Type 0
  Quiet s t = (r : ℕ) × (s < r) × (r ≤ s + t) × (back j u r ≡ 0)

  -- up to the first such tick every tick of ours is used
  used_up : Down j u → (s t : ℕ) → Quiet s t ⊎ (done_by j u s + supply j s t ≤ done_by j u (s + t))
  used_up down s zero = inr (rw (add-zero s) (omega (arith, supply_none j.ours s)))
  used_up down s (suc t) = go (used_up down s t)
    where
      next : back j u (suc (s + t)) ≡ 0 → Quiet s (suc t)
      next h = (suc (s + t), omega arith, omega arith, h)

      more : done_by j u s + supply j s t ≤ done_by j u (s + t) → on (j.ours (s + t)) 1 ≤ ran j u (s + t)
          → done_by j u s + supply j s (suc t) ≤ done_by j u (s + suc t)
      more h l = rw (add-suc s t) (omega (arith, supply_next j.ours s t, done_suc (s + t)))

      step : done_by j u s + supply j s t ≤ done_by j u (s + t) → (b : Bool) → j.ours (s + t) ≡ b → (ran j u (s + t) ≡ 0) ⊎ (0 < ran j u (s + t))
          → Quiet s (suc t) ⊎ (done_by j u s + supply j s (suc t) ≤ done_by j u (s + suc t))
      step h true e (inl z) = inl (next (idle down (s + t) e z))
      step h true e (inr z) = inr (more h (omega (arith, on_le (j.ours (s + t)) 1)))
      step h false e d = inr (more h (omega (arith, on_false (j.ours (s + t)) 1 e)))

      go : Quiet s t ⊎ (done_by j u s + supply j s t ≤ done_by j u (s + t))
          → Quiet s (suc t) ⊎ (done_by j u s + supply j s (suc t) ≤ done_by j u (s + suc t))
      go (inl (r, a, b, h)) = inl (r, a, omega arith, h)
      go (inr h) = step h (j.ours (s + t)) refl (eq-zero-or-pos (ran j u (s + t)))

  -- from a tick at which nothing is behind, a window whose supply is as large as the work that comes in it has another such tick
  pub busy : Down j u → (s t : ℕ) → back j u s ≡ 0 → 0 < t → came j u (s + t) ≤ came j u s + supply j s t → Quiet s t
  busy down s t z l h = go (used_up down s t)
    where
      go : Quiet s t ⊎ (done_by j u s + supply j s t ≤ done_by j u (s + t)) → Quiet s t
      go (inl q) = q
      go (inr d) = (s + t, omega arith, omega arith, omega (arith, done_back s, done_back (s + t)))

-- the last tick up to r at which nothing is behind
pub record Latest (j : Jobs) (u : ℕ → Bool) (r : ℕ) : Type 0 where
  pub tick : ℕ
  pub before : tick ≤ r
  pub quiet : back j u tick ≡ 0
  pub last : (x : ℕ) → tick < x → x ≤ r → back j u x ≡ 0 → ⊥

-- there is one: at tick 0 nothing is behind
pub latest : (j : Jobs) (u : ℕ → Bool) (r : ℕ) → Latest j u r
latest j u zero = record { tick = 0; before = omega arith; quiet = back_start j u; last = λ x a b h. omega arith }
latest j u (suc r) = go (eq-zero-or-pos (back j u (suc r))) (latest j u r)
  where
    go : (back j u (suc r) ≡ 0) ⊎ (0 < back j u (suc r)) → Latest j u r → Latest j u (suc r)
    go (inl z) k = record { tick = suc r; before = omega arith; quiet = z; last = λ x a b h. omega arith }
    go (inr z) k = record {
      tick = k.tick;
      before = omega arith;
      quiet = k.quiet;
      last = λ x a b h. old x a h (below_suc x (suc r) (omega arith));
    }
      where
        old : (x : ℕ) → k.tick < x → back j u x ≡ 0 → (x < suc r) ⊎ (x ≡ suc r) → ⊥
        old x a h (inl l) = k.last x a (omega arith) h
        old x a h (inr e) = omega (arith, rw e at h)

-- where another such tick follows the last one up to the start of a job of the set, it is after that start, and the job is finished there
pub latest_done
    : (j : Jobs) (u : ℕ → Bool) (p : ℕ) → p < j.count → u p ≡ true → (k : Latest j u (j.start p)) (t : ℕ) → Quiet j u k.tick t → left_at j (k.tick + t) p ≡ 0
latest_done j u p h e k t (r, a, b, z) = left_later j r (k.tick + t) p b (finished j u r p z h e (le_by (suc (j.start p)) r (λ l. k.last r a (omega arith) z)))
