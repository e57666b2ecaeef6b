-- What the search for a position tells: a trace, that it is past the last, and how many there are.
use Prim.Native.Nat.{ℕ, ◌-◌, ◌≤◌, ◌<◌}
use mathlib.Core.Path.{◌≡◌, refl, sym, ap, ◌∙◌}
use mathlib.Core.Option.{Option, some, none}
use mathlib.Core.List.{List, []}
use native.Mathlib.Omega.{arith}
use lib.ListN.{length, get_or}
use Rattle.model.specs.Tasks.{Tasks, Release}
use Rattle.model.specs.Refusal.{Refusal, refused, answered, answer_by}
use Rattle.model.specs.Calls.{releases_of}
use Rattle.releases.proofs.ReleaseLaws.{length_releases}
use Rattle.std.specs.Prelude as std
use Rattle.std.specs.Prelude.{Ok, Err}
use Rattle.std.specs.declared.ops.ControlFlow.{ControlFlow}
use Rattle.std.specs.declared.ops.ControlFlow.TheVariants.{Continue, Break}
use Rattle.std.specs.ControlFlow.{break_value}
use Rattle.refusal.specs.declared.Refusal as code
use Rattle.refusal.specs.Refusal.{refusal_in}
use Rattle.generator.specs.Generator.{Reaches}
use Rattle.generator.proofs.LeftLaws.{left_inside, left_past}
use Rattle.enumeration.specs.SmallTraces.{small_traces}
use Rattle.enumeration.specs.SmallCalls.{small_fault, member_at, length_in, count_call}
use Rattle.enumeration.proofs.FaultLaws.{passed_of}
use Rattle.enumeration.proofs.MemberLaws.{member_at_lem, member_past}
use Rattle.enumeration.proofs.CountLaws.{few_traces}
use Rattle.smalltraces.specs.SmallAnswers.{found_call, Finds}

module _ (s : Tasks) (n t p : ℕ) where
  -- a refusal
  pub finds_refused : (r : code.Refusal) (task tick cost : List ℕ) → refusal_in {A = std.⊤} (Err r) ≡ small_fault s n t → Finds (found_call s n t p) task tick cost (Err r)
  unfolding found_call answer_by length_in
  finds_refused r task tick cost e =
      rw (← e) (record { told = refl; rows = λ l f. let z : ◌≡◌ {A = ℕ} 0 1 = cc in absurd (omega arith); few = λ k f. let z : ◌≡◌ {A = ℕ} 0 1 = cc in absurd (omega arith) })

  module _ (e : none ≡ small_fault s n t) (all : List (List Release)) (is : all ≡ small_traces s n t) (task tick cost : List ℕ) where
    found_by : (o : Option (List Release)) → member_at all p ≡ o → found_call s n t p ≡ answered o
    unfolding found_call answer_by
    found_by o f = rw (← e, ← is, f)

    -- a trace of k releases
    pub finds_trace : (k : ℕ) (r : ControlFlow ℕ ℕ) → r ≡ Break k → Reaches all n p task tick cost r → Finds (found_call s n t p) task tick cost (Ok (std.Some k))
    unfolding length_in
    finds_trace k r f w =
        rw (found_by (some (releases_of k task tick cost)) (member_at_lem [] all p inside ∙ ap some (sym held)))
        (record {
          told = ap (λ (m : ℕ). answered (some m)) (sym (length_releases k task tick cost));
          rows = λ l g. let c : releases_of k task tick cost ≡ l = cc in rw (← c) (ap (λ (m : ℕ). releases_of m task tick cost) (length_releases k task tick cost));
          few = λ m g. let c : k ≡ m = cc in omega (arith, w.few k f, (passed_of s n t e).few_releases);
        })
      where
        held : releases_of k task tick cost ≡ get_or all p []
        held = w.found k f

        inside : p < length all
        inside = left_inside (length all) p (rw f at w.left)

    -- past the last trace
    pub finds_past : (left : ℕ) (r : ControlFlow ℕ ℕ) → r ≡ Continue left → Reaches all n p task tick cost r → Finds (found_call s n t p) task tick cost (Ok std.None)
    unfolding length_in
    finds_past left r f w =
        rw (found_by none (member_past all p (left_past (length all) p left (rw f at w.left)).past))
        (record { told = refl; rows = λ l g. let z : ◌≡◌ {A = ℕ} 0 1 = cc in absurd (omega arith); few = λ k g. let z : ◌≡◌ {A = ℕ} 0 1 = cc in absurd (omega arith) })

    -- either
    pub finds_either : (r : ControlFlow ℕ ℕ) → Reaches all n p task tick cost r → Finds (found_call s n t p) task tick cost (Ok (break_value r))
    finds_either (Break k) w = finds_trace k (Break k) refl w
    finds_either (Continue left) w = finds_past left (Continue left) refl w

-- how many there are: a refusal, and what is left of the largest position
module _ (s : Tasks) (n t : ℕ) where
  pub counts_refused : (r : Refusal) → some r ≡ small_fault s n t → refused r ≡ count_call s n t
  unfolding count_call answer_by
  counts_refused r e = rw (← e)

  module _
      (e : none ≡ small_fault s n t) (all : List (List Release)) (is : all ≡ small_traces s n t) (task tick cost : List ℕ) (r : ControlFlow ℕ ℕ)
      (w : Reaches all n 18446744073709551615 task tick cost r) where
    few : length all ≤ 5245786
    few = let q = passed_of s n t e in rw is (few_traces s n t q.few_tasks q.few_releases q.few_ticks)

    -- no trace stands at the largest position
    pub counts_never : (k : ℕ) → r ≡ Break k → ⊥
    counts_never k f = omega (arith, few, left_inside (length all) 18446744073709551615 (rw f at w.left))

    pub counts_all : (left : ℕ) → r ≡ Continue left → answered (18446744073709551615 - left) ≡ count_call s n t
    unfolding count_call answer_by
    counts_all left f =
        rw (← e, ← is)
        (ap answered (omega (arith, few, (left_past (length all) 18446744073709551615 left (rw f at w.left)).past, (left_past (length all) 18446744073709551615 left (rw f at w.left)).is)))
