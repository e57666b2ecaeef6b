-- The six facts hold of every run.
use Prim.Native.Nat.{ℕ, zero, suc, ◌+◌, ◌≤◌, ◌<◌}
use mathlib.Core.Path.{◌≡◌, refl, sym, ◌∙◌}
use mathlib.Core.Bool.{true}
use mathlib.Core.Option.{Option, some, none, some-injective}
use mathlib.Core.Logic.{◌⊎◌, inl, inr}
use native.Mathlib.Omega.{arith}
use Rattle.model.specs.Series.{on, sum}
use Rattle.model.specs.Run.{Jobs, left_at, runs, runs_in}
use Rattle.model.proofs.SeriesLaws.{le_by, on_true, on_nil}
use Rattle.theory.proofs.JobWindows.{Before}
use Rattle.theory.proofs.RunLaws.{Picked, runs_some, runs_none, left_zero, left_same, left_other, runs_or}
use Rattle.theory.proofs.FinishLaws.{runs_in_lem, in_runs}
use Rattle.theory.specs.Facts.{Facts, ran_before}

module _ (j : Jobs) where
  ran_left : (t p : ℕ) → ran_before j p t + left_at j t p ≡ j.work p
  unfolding ran_before sum
  ran_left zero p = omega (arith, left_zero j p)
  ran_left (suc t) p = go (runs_or j t p) (ran_left t p)
    where
      go : (runs j t ≡ some p) ⊎ (runs j t ≡ some p → ⊥) → sum (λ u. on (runs_in j p u) 1) t + left_at j t p ≡ j.work p
          → sum (λ u. on (runs_in j p u) 1) t + on (runs_in j p t) 1 + left_at j (suc t) p ≡ j.work p
      go (inl r) h = omega (arith, on_true (runs_in j p t) 1 (runs_in_lem j p t r), left_same j t p r)
      go (inr n) h = omega (arith, on_nil (runs_in j p t) 1 (λ e. absurd (n (in_runs j p t e))), left_other j t p n)

  -- a job that goes first leaves no pending one before it
  none_before : (t p q : ℕ) → Picked j (left_at j t) t p → q < j.count → (Before j.task p q → ⊥) → j.start q ≤ t → left_at j t q ≡ 0
  none_before t p q k l b s = let h : left_at j t q ≤ 0 = le_by (left_at j t q) 0 (λ w. b (k.goes_first q l s w)) in omega arith

  some_runs
      : (t i q : ℕ) → j.ours t ≡ true → q < j.count → j.task q ≤ i → j.start q ≤ t → 0 < left_at j t q
      → (p : ℕ) × (runs j t ≡ some p) × (j.task p ≤ i)
  some_runs t i q o l e s w = go (runs j t) refl
    where
      go : (x : Option ℕ) → runs j t ≡ x → (p : ℕ) × (runs j t ≡ some p) × (j.task p ≤ i)
      go none r = absurd (omega (arith, runs_none j t o r q l s))
      go (some p) r = (p, r, omega (arith, ((runs_some j t p r).goes_first q l s w).0))

  -- every run has them
  pub facts : Facts j
  facts = record {
    one_job = λ t p q h g. some-injective p q (sym h ∙ g);
    in_ours = λ t p h. (runs_some j t p h).is_ours;
    from_start = λ t p h. (runs_some j t p h).started;
    no_more = ran_left;
    above_first = λ t p q h l a s. none_before t p q (runs_some j t p h) l (λ b. omega (arith, b.0)) s;
    older_first = λ t p q h l a c s. none_before t p q (runs_some j t p h) l (λ b. omega (arith, b.1 (sym a))) s;
    no_idle = some_runs;
  }
