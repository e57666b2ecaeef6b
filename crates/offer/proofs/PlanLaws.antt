-- The choice of a sheet as a record is what the definition gives.
use Prim.Native.Nat.{ℕ, ◌≤◌}
use mathlib.Core.Path.{◌≡◌, refl, sym, ap, ◌∙◌}
use mathlib.Core.Bool.{Bool}
use mathlib.Core.Option.{Option, some, none}
use mathlib.Core.List.{List, [], ◌∷◌, ◌++◌}
use native.Mathlib.Omega.{arith}
use lib.ListN.{length, take, drop, length-map}
use lib.Seq.{take-append_seam}
use lib.IntN.{nat_abs}
use Rattle.model.specs.Limits.{max_tasks}
use Rattle.model.specs.Tasks.{Tasks}
use Rattle.model.specs.Choice.{Scope, scope_in, scope, choice}
use Rattle.model.specs.Refusal.{Refusal, refused, answered, first_refusal}
use Rattle.model.specs.Checks.{check_tasks, check_task, check_count, check_slots, check_kept, check_releases, check_choice, refusal_of}
use Rattle.model.specs.Calls.{column_after, unfit_of, choice_inputs, choice_call, kept_column, worst_column}
use Rattle.model.proofs.CheckLaws.{valid_of, slots_next, chosen_of}
use Rattle.model.proofs.OrderLaws.{refused_tasks, accepted_of, answered_of, refused_of}
use Rattle.response.proofs.ChoiceLaws.{choice_length, chosen_to}
use Rattle.admission.specs.Offers.{plan_of, plan_inputs, plan_call}
use Rattle.admission.proofs.AskedLaws.{by_passed, by_refused}

-- columns of 32 slots are long enough, so the choice checks what it checks without them
pub room_free : (s : Tasks) (kept worst : List ℕ) → max_tasks ≤ length kept → max_tasks ≤ length worst → refusal_of (choice_inputs s kept worst) ≡ refusal_of (plan_inputs s)
unfolding refusal_of
room_free s kept worst hk hw = go (check_tasks s) refl
  where
    enough : s.count ≤ max_tasks → check_slots (choice_inputs s kept worst).lent ≡ check_slots []
    enough h = slots_next _ _ (omega arith) ∙ slots_next _ [] (omega arith)

    rest : check_slots (choice_inputs s kept worst).lent ≡ check_slots [] → refusal_of (choice_inputs s kept worst) ≡ refusal_of (plan_inputs s)
    rest e = λ x.
        first_refusal
        (check_tasks s
        ∷ check_task s none
        ∷ check_count none
        ∷ e x
        ∷ check_kept s none
        ∷ check_releases s 0 0 []
        ∷ check_choice (unfit_of (choice s))
        ∷ [])

    go : (o : Option Refusal) → check_tasks s ≡ o → refusal_of (choice_inputs s kept worst) ≡ refusal_of (plan_inputs s)
    go (some r) e = sym (refused_tasks (choice_inputs s kept worst) r (sym e)) ∙ refused_tasks (plan_inputs s) r (sym e)
    go none e = rest (enough (valid_of s e).few_tasks)

-- the columns of a choice, one number for each task
pub kept_long : (s : Tasks) → none ≡ refusal_of (plan_inputs s) → length (kept_column (choice s)) ≡ s.count
unfolding kept_column
kept_long s e =
    let d = chosen_of (choice s) (accepted_of (plan_inputs s) e).unfit in
    ap (λ c. length (kept_column c)) d.is ∙ choice_length (scope s) s d.keeps d.worsts d.is

pub worst_long : (s : Tasks) → none ≡ refusal_of (plan_inputs s) → length (worst_column (choice s)) ≡ s.count
unfolding worst_column
worst_long s e =
    let d = chosen_of (choice s) (accepted_of (plan_inputs s) e).unfit in
    ap (λ c. length (worst_column c)) d.is ∙ length-map d.worsts nat_abs ∙ (chosen_to (scope s) s s.count d.keeps d.worsts d.is).long_worst

-- what stands in front of a column that was written
front : (o : Option Refusal) (l held out : List ℕ) (n : ℕ) → none ≡ o → length l ≡ n → out ≡ column_after o l held → take n out ≡ l
unfolding column_after
front o l held out n e k h = let w : out ≡ l ++ drop (length l) held = rw (← e) at h in rw (w, ← k) (take-append_seam l (drop (length l) held))

module _ (s : Tasks) (held keep worst : List ℕ) (long : max_tasks ≤ length held) where
  abbrev room : Option Refusal
  room = refusal_of (choice_inputs s held held)

  -- a choice that is made
  pub made
      : (c : Scope) (partial : Bool) → answered c ≡ choice_call s held held → scope_in partial ≡ c
      → keep ≡ column_after room (kept_column (choice s)) held → worst ≡ column_after room (worst_column (choice s)) held
      → answered (record { tasks = s; kept = take s.count keep; worst = take s.count worst; scope = scope_in partial }) ≡ plan_call s
  unfolding choice_call plan_call
  made c partial e p k w =
      let a = answered_of (choice_inputs s held held) (scope s) c (sym e) in
      let fine : none ≡ refusal_of (plan_inputs s) = a.0 ∙ room_free s held held long long in
      let ks = front room (kept_column (choice s)) held keep s.count a.0 (kept_long s fine) k in
      let ws = front room (worst_column (choice s)) held worst s.count a.0 (worst_long s fine) w in
      let sc : scope_in partial ≡ scope s = p ∙ sym a.1 in
      (λ x. answered (record { tasks = s; kept = ks x; worst = ws x; scope = sc x })) ∙ sym (by_passed _ (plan_of s) fine)

  -- one that is refused
  pub not_made : (r : Refusal) → refused r ≡ choice_call s held held → refused r ≡ plan_call s
  unfolding choice_call plan_call
  not_made r h =
      let a = refused_of (choice_inputs s held held) (scope s) r (sym h) in
      sym (by_refused _ (plan_of s) _ (a ∙ room_free s held held long long))
