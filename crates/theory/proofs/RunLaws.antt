-- Laws of the run: which job runs, and how the work that a job has left goes down.
use Prim.Native.Nat.{ℕ, zero, suc, ◌+◌, ◌-◌, ◌≤◌, ◌<◌, pred}
use mathlib.Core.Path.{◌≡◌, refl, sym, ap, ◌∙◌}
use mathlib.Core.Bool.{Bool, true, false, cond}
use mathlib.Core.Option.{Option, some, none, some-injective}
use mathlib.Core.Logic.{◌⊎◌, inl, inr}
use native.Mathlib.Nat.{zero-add}
use native.Mathlib.Omega.{arith}
use borrow.Author.Tests.{ltb-true, ltb-false, leb-true, eqb-true, eqb-false, le-leb, lt-ltb, eq-eqb, ne_eqb}
use lib.Dec.{ltb, leb, eqb}
use Rattle.model.specs.Run.{Jobs, pending, prefer, top, pick, less, left_at, runs}
use Rattle.model.proofs.SeriesLaws.{below_suc, le_by, clash, and_left, and_right}
use Rattle.theory.proofs.JobWindows.{Before}

-- nothing is not something
pub none_some : (p : ℕ) → ◌≡◌ {A = Option ℕ} none (some p) → ⊥
none_some p h = let z : ◌≡◌ {A = ℕ} 0 1 = cc in omega arith

-- what a scan of the first n jobs chooses: nothing where none is pending, else a pending job that goes before every pending one
abbrev pub Chosen : (ℕ → ℕ) → (ℕ → Bool) → ℕ → Option ℕ → Type 0
Chosen task pend n none = (q : ℕ) → q < n → pend q ≡ true → ⊥
Chosen task pend n (some p) = (p < n) × (pend p ≡ true) × ((q : ℕ) → q < n → pend q ≡ true → Before task p q)

module _ (task : ℕ → ℕ) (pend : ℕ → Bool) where
  -- one more job that is not pending
  chosen_skip : (o : Option ℕ) (n : ℕ) → pend n ≡ false → Chosen task pend n o → Chosen task pend (suc n) o
  chosen_skip none n e c = λ q l h. go q h (below_suc q n l)
    where
      go : (q : ℕ) → pend q ≡ true → (q < n) ⊎ (q ≡ n) → ⊥
      go q h (inl b) = c q b h
      go q h (inr b) = clash (pend n) (rw b at h) e
  chosen_skip (some p) n e c = (omega arith, c.1, λ q l h. go q h (below_suc q n l))
    where
      go : (q : ℕ) → pend q ≡ true → (q < n) ⊎ (q ≡ n) → Before task p q
      go q h (inl b) = c.2 q b h
      go q h (inr b) = clash (pend n) (rw b at h) e

  -- one more job that is pending
  chosen_take : (o : Option ℕ) (n : ℕ) → pend n ≡ true → Chosen task pend n o → Chosen task pend (suc n) (prefer task o n true)
  unfolding prefer
  chosen_take none n e c = (omega arith, e, λ q l h. go q h (below_suc q n l))
    where
      go : (q : ℕ) → pend q ≡ true → (q < n) ⊎ (q ≡ n) → Before task n q
      go q h (inl b) = absurd (c q b h)
      go q h (inr b) = rw b (omega arith)
  chosen_take (some p) n e c = pick (ltb (task n) (task p)) refl
    where
      new : task n < task p → (q : ℕ) → pend q ≡ true → (q < n) ⊎ (q ≡ n) → Before task n q
      new l q h (inl b) = omega (arith, (c.2 q b h).0)
      new l q h (inr b) = rw b (omega arith)

      old : task p ≤ task n → (q : ℕ) → pend q ≡ true → (q < n) ⊎ (q ≡ n) → Before task p q
      old l q h (inl b) = c.2 q b h
      old l q h (inr b) = rw b (omega arith)

      pick : (b : Bool) → ltb (task n) (task p) ≡ b → Chosen task pend (suc n) (cond b (some n) (some p))
      pick true t = (omega arith, e, λ q l h. new (ltb-true _ _ t) q h (below_suc q n l))
      pick false t = (omega arith, c.1, λ q l h. old (ltb-false _ _ t) q h (below_suc q n l))

  -- what `top` chooses
  pub top_is : (n : ℕ) → Chosen task pend n (top task pend n)
  unfolding top prefer
  top_is zero = λ q l h. omega arith
  top_is (suc n) = go (pend n) refl (top_is n)
    where
      go : (b : Bool) → pend n ≡ b → Chosen task pend n (top task pend n) → Chosen task pend (suc n) (prefer task (top task pend n) n b)
      go true e c = chosen_take (top task pend n) n e c
      go false e c = chosen_skip (top task pend n) n e c

-- job p runs in tick t, where l is the work that each job has left
pub record Picked (j : Jobs) (l : ℕ → ℕ) (t p : ℕ) : Type 0 where
  pub is_ours : j.ours t ≡ true
  pub in_list : p < j.count
  pub started : j.start p ≤ t
  pub unfinished : 0 < l p
  pub goes_first : (q : ℕ) → q < j.count → j.start q ≤ t → 0 < l q → Before j.task p q

module _ (j : Jobs) (l : ℕ → ℕ) (t : ℕ) where
  -- a job that may run and has work left is pending
  pub pending_yes : (p : ℕ) → j.start p ≤ t → 0 < l p → pending j l t p ≡ true
  unfolding pending
  pending_yes p a b = rw (le-leb (j.start p) t a, lt-ltb 0 (l p) b)

  -- a pending job may run
  pub pending_start : (p : ℕ) → pending j l t p ≡ true → j.start p ≤ t
  unfolding pending
  pending_start p h = leb-true _ _ (and_left _ (ltb 0 (l p)) h)

  -- and has work left
  pub pending_left : (p : ℕ) → pending j l t p ≡ true → 0 < l p
  unfolding pending
  pending_left p h = ltb-true _ _ (and_right (leb (j.start p) t) _ h)

  -- the job that is picked
  pub pick_some : (p : ℕ) → pick j l t ≡ some p → Picked j l t p
  unfolding pick
  pick_some p h = go (j.ours t) refl (top j.task (pending j l t) j.count) (top_is j.task (pending j l t) j.count) h
    where
      is : (x : ℕ) → j.ours t ≡ true → Chosen j.task (pending j l t) j.count (some x) → x ≡ p → Picked j l t p
      is x e c g =
          let k : Picked j l t x = record {
            is_ours = e;
            in_list = c.0;
            started = pending_start x c.1;
            unfinished = pending_left x c.1;
            goes_first = λ q a b d. c.2 q a (pending_yes q b d);
          } in
          rw g at k

      go : (b : Bool) → j.ours t ≡ b → (o : Option ℕ) → Chosen j.task (pending j l t) j.count o → cond b o none ≡ some p → Picked j l t p
      go true e none c g = absurd (none_some p g)
      go true e (some x) c g = is x e c (some-injective x p g)
      go false e o c g = absurd (none_some p g)

  -- where no job is picked in a tick of ours, each job that may run has no work left
  pub pick_none : j.ours t ≡ true → pick j l t ≡ none → (q : ℕ) → q < j.count → j.start q ≤ t → l q ≡ 0
  unfolding pick
  pick_none e h q a b = go (top j.task (pending j l t) j.count) (top_is j.task (pending j l t) j.count) (rw e at h)
    where
      go : (o : Option ℕ) → Chosen j.task (pending j l t) j.count o → o ≡ none → l q ≡ 0
      go none c g = let z : l q ≤ 0 = le_by (l q) 0 (λ d. c q a (pending_yes q b d)) in omega arith
      go (some x) c g = absurd (none_some x (sym g))

  -- in a tick that is not ours no job is picked
  pub pick_off : j.ours t ≡ false → pick j l t ≡ none
  unfolding pick
  pick_off e = rw e

module _ (l : ℕ → ℕ) where
  -- the job that runs has one tick less left, and every other what it had
  less_same : (p : ℕ) → less (some p) l p ≡ pred (l p)
  unfolding less
  less_same p = rw (eq-eqb p p refl)

  less_other : (o : Option ℕ) (p : ℕ) → (o ≡ some p → ⊥) → less o l p ≡ l p
  unfolding less
  less_other none p h = refl
  less_other (some q) p h = rw (ne_eqb p q (λ e. h (rw e)))

module _ (j : Jobs) where
  -- the job that runs in tick t
  pub runs_some : (t p : ℕ) → runs j t ≡ some p → Picked j (left_at j t) t p
  unfolding runs
  runs_some t p h = pick_some j (left_at j t) t p h

  -- where no job runs in a tick of ours, each job that may run has no work left
  pub runs_none : (t : ℕ) → j.ours t ≡ true → runs j t ≡ none → (q : ℕ) → q < j.count → j.start q ≤ t → left_at j t q ≡ 0
  unfolding runs
  runs_none t e h = pick_none j (left_at j t) t e h

  -- in a tick that is not ours no job runs
  pub runs_off : (t : ℕ) → j.ours t ≡ false → runs j t ≡ none
  unfolding runs
  runs_off t e = pick_off j (left_at j t) t e

  -- in a tick of ours the job runs that may run, is unfinished and goes before every such job
  pub runs_is : (t : ℕ)
      → j.ours t ≡ true
      → (p : ℕ)
      → p < j.count
      → j.start p ≤ t
      → 0 < left_at j t p
      → ((q : ℕ) → q < j.count → j.start q ≤ t → 0 < left_at j t q → Before j.task p q)
      → runs j t ≡ some p
  runs_is t o p a b d f = go (runs j t) refl
    where
      same : (x : ℕ) → Picked j (left_at j t) t x → x ≡ p
      same x k =
          let u : Before j.task x p = k.goes_first p a b d in
          let v : Before j.task p x = f x k.in_list k.started k.unfinished in
          let e : j.task x ≡ j.task p = omega arith in
          omega (arith, u.1 e, v.1 (sym e))

      go : (r : Option ℕ) → runs j t ≡ r → runs j t ≡ some p
      go none e = absurd (omega (arith, runs_none t o e p a b))
      go (some x) e = e ∙ ap some (same x (runs_some t x e))

  -- none runs where every job that may run is finished
  pub runs_nothing : (t : ℕ) → ((q : ℕ) → q < j.count → j.start q ≤ t → left_at j t q ≡ 0) → runs j t ≡ none
  runs_nothing t f = go (runs j t) refl
    where
      never_is : (x : ℕ) → Picked j (left_at j t) t x → ⊥
      never_is x k = omega (arith, f x k.in_list k.started, k.unfinished)

      go : (r : Option ℕ) → runs j t ≡ r → runs j t ≡ none
      go none e = e
      go (some x) e = absurd (never_is x (runs_some t x e))

  -- at first a job has its whole work left
  pub left_zero : (p : ℕ) → left_at j 0 p ≡ j.work p
  unfolding left_at
  left_zero p = refl

  -- the job that runs has one tick less left
  pub left_same : (t p : ℕ) → runs j t ≡ some p → suc (left_at j (suc t) p) ≡ left_at j t p
  unfolding left_at runs
  left_same t p h =
      let e : left_at j (suc t) p ≡ pred (left_at j t p) = rw h (less_same (left_at j t) p) in
      omega (arith, (runs_some t p h).unfinished)

  -- every other has what it had
  pub left_other : (t p : ℕ) → (runs j t ≡ some p → ⊥) → left_at j (suc t) p ≡ left_at j t p
  unfolding left_at runs
  left_other t p h = less_other (left_at j t) (runs j t) p h

  -- a job runs in a tick or does not
  pub runs_or : (t p : ℕ) → (runs j t ≡ some p) ⊎ (runs j t ≡ some p → ⊥)
  runs_or t p = go (runs j t)
    where
      go : (o : Option ℕ) → (o ≡ some p) ⊎ (o ≡ some p → ⊥)
      go none = inr (none_some p)
      go (some q) = eq (eqb q p) refl
        where
          eq : (b : Bool) → eqb q p ≡ b → (some q ≡ some p) ⊎ (some q ≡ some p → ⊥)
          eq true e = inl (ap some (eqb-true q p e))
          eq false e = inr (λ h. eqb-false q p e (some-injective q p h))

  -- the work left never rises
  pub left_step : (t p : ℕ) → left_at j (suc t) p ≤ left_at j t p
  left_step t p = go (runs_or t p)
    where
      go : (runs j t ≡ some p) ⊎ (runs j t ≡ some p → ⊥) → left_at j (suc t) p ≤ left_at j t p
      go (inl h) = omega (arith, left_same t p h)
      go (inr h) = omega (arith, left_other t p h)

  -- where the work left falls the job ran
  pub left_ran : (t p : ℕ) → left_at j (suc t) p < left_at j t p → runs j t ≡ some p
  left_ran t p l = go (runs_or t p)
    where
      go : (runs j t ≡ some p) ⊎ (runs j t ≡ some p → ⊥) → runs j t ≡ some p
      go (inl h) = h
      go (inr h) = absurd (omega (arith, left_other t p h))

  -- over any number of ticks
  pub left_fall : (s t p : ℕ) → left_at j (s + t) p ≤ left_at j s p
  left_fall s zero p = let e : s + 0 ≡ s = omega arith in rw e (omega arith)
  left_fall s (suc t) p = let e : s + suc t ≡ suc (s + t) = omega arith in rw e (omega (arith, left_fall s t p, left_step (s + t) p))

  -- a job that is finished stays finished
  pub left_later : (s t p : ℕ) → s ≤ t → left_at j s p ≡ 0 → left_at j t p ≡ 0
  left_later s t p h e =
      let d : s + (t - s) ≡ t = omega arith in
      let f : left_at j t p ≤ left_at j s p = rw d at (left_fall s (t - s) p) in
      omega arith

  -- no more is left than the whole work
  pub left_le : (t p : ℕ) → left_at j t p ≤ j.work p
  left_le t p = let f : left_at j t p ≤ left_at j 0 p = rw zero-add at (left_fall 0 t p) in omega (arith, left_zero p)

  -- up to its start tick a job has its whole work left
  pub left_early : (t p : ℕ) → t ≤ j.start p → left_at j t p ≡ j.work p
  left_early zero p h = left_zero p
  left_early (suc t) p h = left_other t p (λ r. late (runs_some t p r)) ∙ left_early t p (omega arith)
    where
      late : Picked j (left_at j t) t p → ⊥
      late k = omega (arith, k.started)

  -- a job with no work left does not run
  pub finished_rests : (t p : ℕ) → left_at j t p ≡ 0 → runs j t ≡ some p → ⊥
  finished_rests t p e h = omega (arith, (runs_some t p h).unfinished)
