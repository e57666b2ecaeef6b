-- Laws of several ticks at once: while no job reaches its start tick and the job that runs has work left, that job keeps the processor.
use Prim.Native.Nat.{ℕ, zero, suc, ◌+◌, ◌-◌, ◌≤◌, ◌<◌}
use mathlib.Core.Path.{◌≡◌, refl, sym, ap, ◌∙◌}
use mathlib.Core.Bool.{Bool, true, false}
use mathlib.Core.Logic.{◌⊎◌, inl, inr}
use mathlib.Core.Option.{some, none, some-injective}
use native.Mathlib.Omega.{arith}
use lib.Dec.{eqb}
use borrow.Author.Tests.{eqb-true, eqb-false}
use Rattle.model.specs.Run.{Jobs, left_at, runs, finish_of}
use Rattle.model.proofs.SeriesLaws.{below_suc, le_by, on_true, on_false}
use Rattle.model.proofs.SupplyLaws.{supply_none, supply_next}
use Rattle.theory.proofs.JobWindows.{Served, Before, supply}
use Rattle.theory.proofs.RunLaws.{none_some, runs_some, runs_off, runs_is, runs_nothing, runs_or, left_same, left_other, left_later}
use Rattle.theory.proofs.FinishLaws.{LastTick, finish_ran, finish_by, finish_done, finish_not}

-- one number is another or is not
pub same_or : (p q : ℕ) → (p ≡ q) ⊎ (p ≡ q → ⊥)
same_or p q = go (eqb p q) refl
  where
    go : (b : Bool) → eqb p q ≡ b → (p ≡ q) ⊎ (p ≡ q → ⊥)
    go true e = inl (eqb-true p q e)
    go false e = inr (eqb-false p q e)

module _ (j : Jobs) (t : ℕ) where
  -- job p runs in each tick of ours among the k from t on
  abbrev pub Keeps : ℕ → ℕ → Type 0
  Keeps p k = (n : ℕ) → n < k → j.ours (t + n) ≡ true → runs j (t + n) ≡ some p

  -- no job runs in the k ticks from t on
  abbrev pub Rests : ℕ → Type 0
  Rests k = (n : ℕ) → n < k → runs j (t + n) ≡ none

  -- a job whose start tick is after t starts k ticks after it at the earliest
  abbrev pub NoStart : ℕ → Type 0
  NoStart k = (q : ℕ) → q < j.count → t < j.start q → t + k ≤ j.start q

  -- what is left after ticks in which no job runs
  pub left_rests : (k : ℕ) → Rests k → (q : ℕ) → left_at j (t + k) q ≡ left_at j t q
  left_rests zero r q = ap (λ n. left_at j n q) (omega arith)
  left_rests (suc k) r q =
      let e : t + suc k ≡ suc (t + k) = omega arith in
      rw e (left_other j (t + k) q (λ g. none_some q (sym (r k (omega arith)) ∙ g)) ∙ left_rests k (λ n l. r n (omega arith)) q)

  -- what is left after ticks in which job p keeps the processor: it ran in those that are ours, and every other job has what it had
  pub left_keeps : (p k : ℕ) → Keeps p k → left_at j (t + k) p + supply j t k ≡ left_at j t p
  left_keeps p zero h = let e : t + 0 ≡ t = omega arith in rw e (omega (arith, supply_none j.ours t))
  left_keeps p (suc k) h = let e : t + suc k ≡ suc (t + k) = omega arith in rw e (go (j.ours (t + k)) refl (left_keeps p k (λ n l. h n (omega arith))))
    where
      go : (b : Bool) → j.ours (t + k) ≡ b → left_at j (t + k) p + supply j t k ≡ left_at j t p → left_at j (suc (t + k)) p + supply j t (suc k) ≡ left_at j t p
      go true o i = omega (arith, supply_next j.ours t k, on_true (j.ours (t + k)) 1 o, left_same j (t + k) p (h k (omega arith) o))
      go false o i =
          omega (
            arith,
            supply_next j.ours t k,
            on_false (j.ours (t + k)) 1 o,
            left_other j (t + k) p (λ g. none_some p (sym (runs_off j (t + k) o) ∙ g)),
          )

  pub left_others : (p k : ℕ) → Keeps p k → (q : ℕ) → (q ≡ p → ⊥) → left_at j (t + k) q ≡ left_at j t q
  left_others p zero h q n = ap (λ m. left_at j m q) (omega arith)
  left_others p (suc k) h q n = let e : t + suc k ≡ suc (t + k) = omega arith in rw e (left_other j (t + k) q other ∙ left_others p k (λ m l. h m (omega arith)) q n)
    where
      other : runs j (t + k) ≡ some q → ⊥
      other g = go (j.ours (t + k)) refl
        where
          go : (b : Bool) → j.ours (t + k) ≡ b → ⊥
          go true o = n (some-injective q p (sym g ∙ h k (omega arith) o))
          go false o = none_some q (sym (runs_off j (t + k) o) ∙ g)

  -- in any k ticks a job does at most as much work as ticks are ours
  left_slow : (p k : ℕ) → left_at j t p ≤ left_at j (t + k) p + supply j t k
  left_slow p zero = let e : t + 0 ≡ t = omega arith in rw e (omega arith)
  left_slow p (suc k) = let e : t + suc k ≡ suc (t + k) = omega arith in rw e (go (left_slow p k) (runs_or j (t + k) p))
    where
      go : left_at j t p ≤ left_at j (t + k) p + supply j t k
          → (runs j (t + k) ≡ some p) ⊎ (runs j (t + k) ≡ some p → ⊥)
          → left_at j t p ≤ left_at j (suc (t + k)) p + supply j t (suc k)
      go i (inl h) =
          omega (arith, supply_next j.ours t k, on_true (j.ours (t + k)) 1 (runs_some j (t + k) p h).is_ours, left_same j (t + k) p h)
      go i (inr h) = omega (arith, supply_next j.ours t k, left_other j (t + k) p h)

  -- where every job that may run is finished, none runs before one reaches its start tick
  pub rests : (k : ℕ) → NoStart k → ((q : ℕ) → q < j.count → j.start q ≤ t → left_at j t q ≡ 0) → Rests k
  rests k s f n l =
      runs_nothing j (t + n) (λ q a b. left_later j t (t + n) q (omega arith) (f q a (le_by (j.start q) t (λ x. omega (arith, s q a x)))))

  -- a job that goes before every job which may run keeps the processor until one reaches its start tick, as long as it has work left
  module _ (p : ℕ) (inside : p < j.count) (started : j.start p ≤ t)
      (first : (q : ℕ) → q < j.count → j.start q ≤ t → 0 < left_at j t q → Before j.task p q) where
    pub keeps : (k : ℕ) → NoStart k → supply j t k ≤ left_at j t p → Keeps p k
    keeps zero s h = λ n l. absurd (omega arith)
    keeps (suc k) s h = λ n l o. go n o (below_suc n k l) (keeps k earlier (omega (arith, supply_next j.ours t k)))
      where
        earlier : NoStart k
        earlier q a b = omega (arith, s q a b)

        at : Keeps p k → j.ours (t + k) ≡ true → runs j (t + k) ≡ some p
        at i o =
            runs_is j (t + k) o p inside (omega arith)
            (omega (arith, left_keeps p k i, supply_next j.ours t k, on_true (j.ours (t + k)) 1 o))
            (λ q a b d. still q a b d (same_or q p))
          where
            still : (q : ℕ) → q < j.count → j.start q ≤ t + k → 0 < left_at j (t + k) q → (q ≡ p) ⊎ (q ≡ p → ⊥) → Before j.task p q
            still q a b d (inl e) = rw e (omega arith)
            still q a b d (inr n) =
                first q a (le_by (j.start q) t (λ x. omega (arith, s q a x))) (omega (arith, left_others p k i q n))

        go : (n : ℕ) → j.ours (t + n) ≡ true → (n < k) ⊎ (n ≡ k) → Keeps p k → runs j (t + n) ≡ some p
        go n o (inl l) i = i n l o
        go n o (inr e) i =
            let g : j.ours (t + k) ≡ true = rw e at o in
            rw e (at i g)

-- where every turn has a tick of ours
module _ (j : Jobs) (served : Served j) (t : ℕ) where
  -- a job that keeps the processor for k ticks, of which it needs the last, finishes after them
  pub finish_keeps
      : (p k : ℕ) → p < j.count → 1 ≤ j.work p → 1 ≤ k → Keeps j t p k → supply j t (k - 1) < left_at j t p → left_at j t p ≤ supply j t k
      → finish_of j p ≡ t + k
  finish_keeps p k a w l h low high =
      omega (
        arith,
        finish_by j served p a w (t + k) (omega (arith, left_keeps j t p k h)),
        finish_not j served p a w (t + (k - 1)) (omega (arith, left_keeps j t p (k - 1) (λ n b. h n (omega arith)))),
      )

  -- and a job that finishes in k ticks has no more work left than ticks of them are ours
  pub left_supplied : (p k : ℕ) → p < j.count → 1 ≤ j.work p → finish_of j p ≤ t + k → left_at j t p ≤ supply j t k
  left_supplied p k a w h = omega (arith, left_slow j t p k, finish_done j served p a w (t + k) h)

  -- a job that finishes in the k ticks from t on runs in one of them
  finish_inside : (q k : ℕ) → q < j.count → 1 ≤ j.work q → t < finish_of j q → finish_of j q ≤ t + k → (n : ℕ) × (n < k) × (runs j (t + n) ≡ some q)
  finish_inside q k a w b d = go (finish_ran j served q a w)
    where
      go : (u : ℕ) × (finish_of j q ≡ suc u) × LastTick j q u → (n : ℕ) × (n < k) × (runs j (t + n) ≡ some q)
      go (u, e, l) = let s : t + (u - t) ≡ u = omega arith in (u - t, omega arith, ap (runs j) s ∙ l.0)

  -- so none does while none runs, and only the job that keeps the processor does
  pub rests_none : (q k : ℕ) → q < j.count → 1 ≤ j.work q → Rests j t k → t < finish_of j q → finish_of j q ≤ t + k → ⊥
  rests_none q k a w h b d = go (finish_inside q k a w b d)
    where
      go : (n : ℕ) × (n < k) × (runs j (t + n) ≡ some q) → ⊥
      go (n, l, e) = none_some q (sym (h n l) ∙ e)

  pub keeps_only : (p q k : ℕ) → q < j.count → 1 ≤ j.work q → Keeps j t p k → t < finish_of j q → finish_of j q ≤ t + k → q ≡ p
  keeps_only p q k a w h b d = go (finish_inside q k a w b d)
    where
      go : (n : ℕ) × (n < k) × (runs j (t + n) ≡ some q) → q ≡ p
      go (n, l, e) = some-injective q p (sym e ∙ h n l (runs_some j (t + n) q e).is_ours)
