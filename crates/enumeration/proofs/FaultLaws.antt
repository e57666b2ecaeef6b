-- The order of the checks of a call on the small traces.
use Prim.Native.Nat.{ℕ, ◌≤◌, ◌<◌}
use mathlib.Core.Path.{◌≡◌, sym, ◌∙◌}
use mathlib.Core.Option.{some, none}
use borrow.Author.Tests.{lt-ltb, le-ltb, ltb-false}
use lib.Dec.{ltb}
use Rattle.model.specs.Tasks.{Tasks}
use Rattle.model.specs.Refusal.{Refusal, refuse}
use Rattle.model.specs.Checks.{refuse_if, check_tasks}
use Rattle.model.proofs.CheckLaws.{valid_of, not_refused}
use Rattle.model.proofs.OrderLaws.{first_refusal_lem, next_check, last_decides, both_none}
use Rattle.enumeration.specs.SmallCalls.{max_small_tasks, max_small_releases, max_small_ticks, small_fault}

-- a number over its limit, and one within it
over : (most n number : ℕ) → most < n → refuse number n ≡ refuse_if (ltb most n) number n
unfolding refuse_if
over most n number h = rw (lt-ltb most n h)

within : (most n number : ℕ) → n ≤ most → none ≡ refuse_if (ltb most n) number n
unfolding refuse_if
within most n number h = rw (le-ltb most n h)

module _ (s : Tasks) (n t : ℕ) where
  pub fault_sheet : (r : Refusal) → some r ≡ check_tasks s → some r ≡ small_fault s n t
  unfolding small_fault
  fault_sheet r e = first_refusal_lem _ _ r e

  module _ (e : none ≡ check_tasks s) where
    pub fault_tasks : max_small_tasks < s.count → refuse 4 s.count ≡ small_fault s n t
    unfolding small_fault
    fault_tasks h = first_refusal_lem _ _ _ (over max_small_tasks s.count 4 h) ∙ next_check _ _ e

    module _ (a : s.count ≤ max_small_tasks) where
      pub fault_releases : max_small_releases < n → refuse 10 n ≡ small_fault s n t
      unfolding small_fault
      fault_releases h = first_refusal_lem _ _ _ (over max_small_releases n 10 h) ∙ next_check _ _ (within max_small_tasks s.count 4 a) ∙ next_check _ _ e

      module _ (b : n ≤ max_small_releases) where
        last : refuse_if (ltb max_small_ticks t) 8 t ≡ small_fault s n t
        unfolding small_fault
        last =
            last_decides _ ∙ next_check _ _ (within max_small_releases n 10 b) ∙ next_check _ _ (within max_small_tasks s.count 4 a) ∙ next_check _ _ e

        pub fault_ticks : max_small_ticks < t → refuse 8 t ≡ small_fault s n t
        fault_ticks h = over max_small_ticks t 8 h ∙ last

        pub fault_none : t ≤ max_small_ticks → none ≡ small_fault s n t
        fault_none h = within max_small_ticks t 8 h ∙ last

-- what passes: a sheet with 1 to 3 tasks, up to 6 releases, ticks below at most 12
pub record Passed (s : Tasks) (n t : ℕ) : Type 0 where
  pub some_task : 1 ≤ s.count
  pub few_tasks : s.count ≤ max_small_tasks
  pub few_releases : n ≤ max_small_releases
  pub few_ticks : t ≤ max_small_ticks

pub passed_of : (s : Tasks) (n t : ℕ) → none ≡ small_fault s n t → Passed s n t
unfolding small_fault
passed_of s n t e =
    let a = both_none _ _ e in
    let b = both_none _ _ a.1 in
    let c = both_none _ _ b.1 in
    let d = both_none _ _ c.1 in
    record {
      some_task = (valid_of s (sym a.0)).some_task;
      few_tasks = ltb-false max_small_tasks s.count (not_refused _ _ _ b.0);
      few_releases = ltb-false max_small_releases n (not_refused _ _ _ c.0);
      few_ticks = ltb-false max_small_ticks t (not_refused _ _ _ d.0);
    }
