-- What the calls say when their inputs come from an accepted file.
use Prim.Native.Nat.{ℕ, ◌≤◌}
use mathlib.Core.Path.{◌≡◌, sym, ◌∙◌}
use mathlib.Core.Option.{some, none}
use mathlib.Core.List.{List, [], ◌++◌}
use native.Mathlib.Omega.{arith}
use lib.ListN.{length, get_or-append}
use lib.IntN.{ℤ}
use Rattle.model.specs.Tasks.{Tasks}
use Rattle.model.specs.Refusal.{refuse}
use Rattle.model.specs.Checks.{check_tasks, check_kept, refusal_of}
use Rattle.model.specs.Choice.{column, unfit, chosen, scope, choice}
use Rattle.model.specs.Calls.{lends, choice_inputs, run_inputs}
use Rattle.model.proofs.CheckLaws.{kept_passes, count_few, slots_next, slots_none, unfit_of_lem, Chosen, chosen_of}
use Rattle.model.proofs.OrderLaws.{no_single, no_unfit, accepted_of, accepts}
use Rattle.response.proofs.ChoiceLaws.{choice_length, choice_keeps}
use Rattle.choice.proofs.ChoiceCallLaws.{room_enough, choice_decides}
use Rattle.answers.specs.Listed.{Listed, Kept}

module _ (s : Tasks) (kept worst : List ℕ) where
  -- a refused choice is 15 at a task that fits at no K
  pub choice_refused
      : none ≡ check_tasks s → s.count ≤ length kept → s.count ≤ length worst
      → (n p : ℕ) → refuse n p ≡ refusal_of (choice_inputs s kept worst) → (15 ≡ n) × (choice s ≡ unfit p)
  choice_refused ok hk hw n p e =
      let u = unfit_of_lem (choice s) n p (e ∙ sym (choice_decides s kept worst (room_enough s (length kept) (length worst) ok hk hw))) in
      (sym u.0, u.1)

  -- an answered choice
  pub choice_fine : none ≡ refusal_of (choice_inputs s kept worst) → Chosen (choice s)
  choice_fine e = chosen_of (choice s) (accepted_of _ e).unfit

-- kept jitters of a choice pass their check, whatever follows them in their column
pub keeps_pass : (s : Tasks) (ks : List ℕ) (ws : List ℤ) (rest : List ℕ) → choice s ≡ chosen ks ws → none ≡ check_kept s (some (column (ks ++ rest)))
keeps_pass s ks ws rest h =
    kept_passes s (column (ks ++ rest))
    (λ i l. rw (get_or-append ks rest 0 i (omega (arith, choice_length (scope s) s ks ws h))) (choice_keeps (scope s) s ks ws h i l))

-- a run of an accepted file's releases with the kept jitters of its choice refuses nothing
pub run_accepted
    : (s : Tasks) (kept : List ℕ) (n : ℕ) (task tick cost ready finish : List ℕ) → Listed s n task tick cost → Kept s kept
    → n ≤ length ready → n ≤ length finish → none ≡ refusal_of (run_inputs s kept n task tick cost ready finish)
run_accepted s kept n task tick cost ready finish l k hr hf =
    accepts (run_inputs s kept n task tick cost ready finish)
    (record {
      tasks = l.sheet;
      single = no_single s;
      count = count_few n l.few;
      lent =
          slots_none
          ∙ sym
          (slots_next (lends s.count kept) _ k.long
          ∙ slots_next (lends n task) _ l.task_long
          ∙ slots_next (lends n tick) _ l.tick_long
          ∙ slots_next (lends n cost) _ l.cost_long
          ∙ slots_next (lends n ready) _ hr
          ∙ slots_next (lends n finish) [] hf);
      kept = k.within;
      releases = l.list;
      unfit = no_unfit;
    })
