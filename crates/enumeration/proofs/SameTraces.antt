-- Entries of a sheet past its count do not matter to the small traces: proves SameTraces of specs/EveryTrace.antt.
use Prim.Native.Nat.{ℕ, zero, suc, ◌-◌, ◌*◌, ◌/◌, ◌%◌, ◌≤◌, ◌<◌}
use mathlib.Core.Path.{◌≡◌, refl, sym, ap, ◌∙◌}
use mathlib.Core.Logic.{◌⊎◌, inl, inr}
use mathlib.Core.Bool.{true, false}
use mathlib.Core.List.{List, [], ◌∷◌, ◌++◌, reverse}
use native.Mathlib.Omega.{arith}
use native.Mathlib.Nat.{mod-lt, mul-zero}
use lib.Dec.{leb, ltb}
use lib.ListN.{length}
use Rattle.model.specs.Tasks.{Tasks, Release}
use Rattle.model.specs.Gap.{own}
use Rattle.model.specs.Ready.{after}
use Rattle.model.specs.Refusal.{answer_by, first_refusal}
use Rattle.model.specs.Checks.{refuse_if}
use Rattle.model.proofs.SeriesLaws.{le_or_lt}
use Rattle.model.proofs.SameAnswers.{tasks_same}
use Rattle.enumeration.specs.SmallTraces.{pair_release, may_follow, joined, extended, traces_of, small_traces}
use Rattle.enumeration.specs.SmallCalls.{max_small_tasks, max_small_releases, max_small_ticks, small_fault, member_at, check_room, small_refusal, small_call, count_call}
use Rattle.enumeration.specs.EveryTrace.{SameTraces}

-- sheets that agree on the count, and on P, J and E of the tasks below it
pub record Alike (s s' : Tasks) : Type 0 where
  pub count : s.count ≡ s'.count
  pub period : (i : ℕ) → i < s.count → s.period i ≡ s'.period i
  pub jitter : (i : ℕ) → i < s.count → s.jitter i ≡ s'.jitter i
  pub cost : (i : ℕ) → i < s.count → s.cost i ≡ s'.cost i

-- joining no list at all
nothing : {A : Type 0} (f : ℕ → List A) (x m : ℕ) → m ≡ 0 → joined f x m ≡ []
unfolding joined
nothing f x m e = rw (e, joined)

module _ (s s' : Tasks) (same : Alike s s') where
  -- whether a release of a task of the sheet may follow
  follow_alike : (l : List Release) (r : Release) → r.task < s.count → may_follow s l r ≡ may_follow s' l r
  unfolding may_follow
  follow_alike l r h = λ x. leb (after (same.period r.task h x) (same.jitter r.task h x) (reverse (own r.task l)) 1) r.tick

  module _ (some_task : 1 ≤ s.count) where
    -- the release of a pair
    pair_alike : (y : ℕ) → pair_release s y ≡ pair_release s' y
    pair_alike y = λ x. record { task = y % same.count x; tick = y / same.count x; cost = full x }
      where
        full : s.cost (y % s.count) ≡ s'.cost (y % s'.count)
        full = same.cost (y % s.count) (mod-lt y some_task) ∙ ap (λ n. s'.cost (y % n)) same.count

    -- whether it may follow
    pair_follows : (l : List Release) (y : ℕ) → may_follow s l (pair_release s y) ≡ may_follow s' l (pair_release s' y)
    pair_follows l y = follow_alike l (pair_release s y) (mod-lt y some_task) ∙ ap (may_follow s' l) (pair_alike y)

    -- sheets that agree on the tasks below the count, where there is one, have the same extensions of a trace
    pub extended_alike : (b n x : ℕ) (l : List Release) → extended s b n x l ≡ extended s' b n x l
    unfolding extended
    extended_alike b zero x l = refl
    extended_alike b (suc n) x l = λ i.
        joined
        (λ y.
        elim (pair_follows l y i) [
          | true ↦
              (extended_alike b n y (l ++ (pair_release s y ∷ [])) ∙ ap (λ r. extended s' b n y (l ++ (r ∷ []))) (pair_alike y))
              i
          | false ↦ []
        ])
        x
        (b - x)

  -- without a task there is no pair
  no_pair : (t n : ℕ) → s.count < 1 → extended s (t * s.count) n 0 [] ≡ extended s' (t * s.count) n 0 []
  unfolding extended
  no_pair t zero h = refl
  no_pair t (suc n) h =
      let zero-task : s.count ≡ 0 = omega arith in
      let e : t * s.count - 0 ≡ 0 = rw zero-task (omega (arith, mul-zero t)) in nothing _ 0 _ e ∙ sym (nothing _ 0 _ e)

  -- the same traces of n releases
  of_alike : (t n : ℕ) → traces_of s t n ≡ traces_of s' t n
  unfolding traces_of
  of_alike t n = go (le_or_lt 1 s.count) ∙ ap (λ c. extended s' (t * c) n 0 []) same.count
    where
      go : (1 ≤ s.count) ⊎ (s.count < 1) → extended s (t * s.count) n 0 [] ≡ extended s' (t * s.count) n 0 []
      go (inl h) = extended_alike h (t * s.count) n 0 []
      go (inr h) = no_pair t n h

  -- sheets that agree on the tasks below the count have the same small traces
  pub small_alike : (n t : ℕ) → small_traces s n t ≡ small_traces s' n t
  unfolding small_traces
  small_alike n t = λ x. joined (λ m. of_alike t m x) 0 (suc n)

-- sheets that agree below the count get the same answers of the call for a trace and of the call for their number
pub same_traces : SameTraces
unfolding small_fault small_refusal small_call count_call
same_traces s s' same = record {
  trace = λ n t p task tick cost x.
      answer_by (first_refusal (fault n t x ∷ check_room (member_at (all n t x) p) task tick cost ∷ [])) (member_at (all n t x) p);
  count = λ n t x. answer_by (fault n t x) (length (all n t x));
}
  where
    all : (n t : ℕ) → small_traces s n t ≡ small_traces s' n t
    all = small_alike s s' (record { count = same.count; period = same.period; jitter = same.jitter; cost = same.cost })

    fault : (n t : ℕ) → small_fault s n t ≡ small_fault s' n t
    fault n t = λ x.
        first_refusal
        (tasks_same s s' same x
        ∷ refuse_if (ltb max_small_tasks (same.count x)) 4 (same.count x)
        ∷ refuse_if (ltb max_small_releases n) 10 n
        ∷ refuse_if (ltb max_small_ticks t) 8 t
        ∷ [])
