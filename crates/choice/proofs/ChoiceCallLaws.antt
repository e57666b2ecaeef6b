-- Laws of the call "choice": its refusals 5, 4, 6, 17, 13 and 15, which of the two choices it tells, and its columns.
use Prim.Native.Nat.{ℕ, ◌≤◌, ◌<◌}
use mathlib.Core.Path.{◌≡◌, refl, sym, ap, ◌∙◌}
use mathlib.Core.Option.{Option, some, none}
use mathlib.Core.List.{List, [], ◌++◌, map, map-map, map-id}
use native.Mathlib.Omega.{arith}
use borrow.Author.Tests.{le-leb, lt-leb}
use lib.ListN.{length, take, drop, length-take}
use lib.IntN.{pos, nat_abs}
use Rattle.model.specs.Limits.{max_tasks}
use Rattle.model.specs.Tasks.{Tasks}
use Rattle.model.specs.Choice.{unfit, chosen, Scope, choice_of, scope, choice}
use Rattle.model.specs.Refusal.{Refusal, refuse, Answer, refused, answered}
use Rattle.model.specs.Checks.{check_tasks, check_slots, check_choice, refusal_of}
use Rattle.model.specs.Calls.{column_after, unfit_of, choice_inputs, choice_call, kept_column, worst_column}
use Rattle.model.proofs.CheckLaws.{slots_short, slots_next, slot_of, slots_none, unfit_refused, chosen_passes}
use Rattle.model.proofs.OrderLaws.{no_single, no_count, no_kept, no_releases, no_unfit, refused_tasks, refused_slots, unfit_decides, accepted_of, accepts, column_kept, column_written}
use Rattle.model.proofs.OrderLaws as order
use Rattle.choice.specs.declared.Decision.{Decision}
use Rattle.choice.specs.Choices.{extent_in, choice_in, DecisionIs, room_inputs}

-- an answer of n numbers that is written in front of what the slots past it held
written : (n : ℕ) (o : Option Refusal) (a answer held : List ℕ) → none ≡ o → a ≡ answer → length a ≡ n → a ++ drop n held ≡ column_after o answer held
written n o a answer held h e l = column_written o n a held h l ∙ ap (λ x. column_after o x held) e

-- integers made of natural numbers
naturals : (l : List ℕ) → map nat_abs (map pos l) ≡ l
naturals l = map-map nat_abs pos l ∙ map-id l

-- the checks before a choice is made, given the slots of its columns: 5, 4, 6, 17, then 13
module _ (s : Tasks) (kept worst : ℕ) where
  pub room_sheet : (r : Refusal) → some r ≡ check_tasks s → some r ≡ refusal_of (room_inputs s kept worst)
  room_sheet r h = refused_tasks _ r h

  pub room_kept : none ≡ check_tasks s → kept < s.count → refuse 13 s.count ≡ refusal_of (room_inputs s kept worst)
  room_kept h l = refused_slots _ _ h (no_single s) no_count (slots_short _ _ l)

  pub room_worst : none ≡ check_tasks s → s.count ≤ kept → worst < s.count → refuse 13 s.count ≡ refusal_of (room_inputs s kept worst)
  room_worst h g l = refused_slots _ _ h (no_single s) no_count (slots_short _ [] l ∙ sym (slots_next _ _ g))

  pub room_enough : none ≡ check_tasks s → s.count ≤ kept → s.count ≤ worst → none ≡ refusal_of (room_inputs s kept worst)
  room_enough h g l =
      accepts _
      (record {
        tasks = h;
        single = no_single s;
        count = no_count;
        lent = slots_none ∙ sym (slots_next _ _ g ∙ slots_next _ [] l);
        kept = no_kept s;
        releases = no_releases s;
        unfit = no_unfit;
      })

  pub room_long : none ≡ refusal_of (room_inputs s kept worst) → (s.count ≤ kept) × (s.count ≤ worst)
  room_long h = let e = slot_of _ _ (accepted_of _ h).lent in (e.0, (slot_of _ _ e.1).0)

module _ (s : Tasks) (kept worst : List ℕ) where
  -- what is refused before a choice is made is what the call refuses
  pub room_decides : (r : Refusal) → some r ≡ refusal_of (room_inputs s (length kept) (length worst)) → some r ≡ refusal_of (choice_inputs s kept worst)
  room_decides r h = sheet (check_tasks s) refl
    where
      room : (o : Option Refusal) → none ≡ check_tasks s → check_slots (choice_inputs s kept worst).lent ≡ o → some r ≡ refusal_of (choice_inputs s kept worst)
      room (some q) d e = h ∙ sym (refused_slots _ q d (no_single s) no_count (sym e)) ∙ refused_slots _ q d (no_single s) no_count (sym e)
      room none d e =
          let fine : none ≡ refusal_of (room_inputs s (length kept) (length worst)) =
          accepts _ (record { tasks = d; single = no_single s; count = no_count; lent = sym e; kept = no_kept s; releases = no_releases s; unfit = no_unfit }) in
          let w : some r ≡ none = h ∙ sym fine in
          let z : ◌≡◌ {A = ℕ} 0 1 = cc in absurd (omega arith)

      sheet : (o : Option Refusal) → check_tasks s ≡ o → some r ≡ refusal_of (choice_inputs s kept worst)
      sheet (some q) e = h ∙ sym (refused_tasks _ q (sym e)) ∙ refused_tasks _ q (sym e)
      sheet none e = room (check_slots (choice_inputs s kept worst).lent) (sym e) refl

  -- the answer of the call, and what stands in its columns afterwards
  abbrev pub Answers : Answer Scope → List ℕ → List ℕ → Type 0
  Answers o k w =
      (o ≡ choice_call s kept worst)
      × ((k ≡ column_after (refusal_of (choice_inputs s kept worst)) (kept_column (choice s)) kept)
      × (w ≡ column_after (refusal_of (choice_inputs s kept worst)) (worst_column (choice s)) worst))

  -- a refusal leaves both columns
  refuses : (r : Refusal) → some r ≡ refusal_of (choice_inputs s kept worst) → Answers (refused r) kept worst
  unfolding choice_call
  refuses r h = (order.refuses (choice_inputs s kept worst) (scope s) r h, (column_kept _ r _ kept h, column_kept _ r _ worst h))

  -- 5, 4, 6, 17, 13
  pub refuses_room : (r : Refusal) → some r ≡ refusal_of (room_inputs s (length kept) (length worst)) → Answers (refused r) kept worst
  refuses_room r h = refuses r (room_decides r h)

  module _ (h : none ≡ refusal_of (room_inputs s (length kept) (length worst))) where
    -- with a sheet that passes and columns with room, the choice decides
    pub choice_decides : check_choice (unfit_of (choice s)) ≡ refusal_of (choice_inputs s kept worst)
    choice_decides =
        let a = accepted_of (room_inputs s (length kept) (length worst)) h in
        unfit_decides _ a.tasks (no_single s) no_count a.lent (no_kept s) (no_releases s)

    module _ (r : Decision) (d : DecisionIs s r) where
      -- the columns hold the choice that is the answer
      holds : choice_in s.count r.choices ≡ choice s
      holds = d.choices.is ∙ ap (λ c. choice_of c s s.count) d.told

      -- 15
      pub refuses_unfit : r.choices.fitted < s.count → Answers (refused (record { number = 15; place = r.choices.fitted })) kept worst
      refuses_unfit b =
          let e : unfit r.choices.fitted ≡ choice s = sym (rw (choice_in, lt-leb s.count r.choices.fitted b)) ∙ holds in
          refuses _ (unfit_refused (choice s) r.choices.fitted (sym e) ∙ choice_decides)

      -- the choice
      pub answers : (k w : List ℕ)
          → s.count ≤ r.choices.fitted
          → s.count ≤ max_tasks
          → k ≡ take s.count r.choices.keep ++ drop s.count kept
          → w ≡ take s.count r.choices.worst ++ drop s.count worst
          → Answers (answered (extent_in r.extent)) k w
      unfolding kept_column worst_column choice_call
      answers k w b few ek ew = (
        ap answered d.told ∙ order.answers (choice_inputs s kept worst) (scope s) passed,
        (
          ek ∙ written s.count _ _ _ _ passed (ap kept_column e) (long r.choices.keep d.choices.keep_long),
          ew ∙ written s.count _ _ _ _ passed (sym (naturals (take s.count r.choices.worst)) ∙ ap worst_column e)
              (long r.choices.worst d.choices.worst_long),
        ),
      )
        where
          e : chosen (take s.count r.choices.keep) (map pos (take s.count r.choices.worst)) ≡ choice s
          e = sym (rw (choice_in, le-leb s.count r.choices.fitted b)) ∙ holds

          passed : none ≡ refusal_of (choice_inputs s kept worst)
          passed = chosen_passes (choice s) _ _ (sym e) ∙ choice_decides

          long : (a : List ℕ) → length a ≡ max_tasks → length (take s.count a) ≡ s.count
          long a f = simp length-take (omega arith)
