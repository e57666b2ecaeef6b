-- The evaluations of an ordinary choice that succeeds are those of the verdicts at the chosen kept jitters.
use Prim.Native.Nat.{ℕ, ◌<◌}
use mathlib.Core.Path.{◌≡◌, refl, sym, ap, ◌∙◌}
use mathlib.Core.Bool.{true}
use mathlib.Core.Option.{none}
use mathlib.Core.List.{List}
use native.Mathlib.Omega.{arith}
use lib.ListN.{get_or}
use lib.Seq.{get_or-take}
use lib.IntN.{ℤ, pos}
use Rattle.model.specs.Tasks.{Tasks, Valid}
use Rattle.model.specs.Verdict.{Verdict, fits}
use Rattle.model.specs.Evaluations.{evaluations, Judged, judged}
use Rattle.model.specs.Choice.{column, chosen, ordinary, judges, choice_of}
use Rattle.model.specs.Refusal.{Answer, answered}
use Rattle.model.specs.Checks.{refusal_of}
use Rattle.model.specs.Calls.{task_inputs, verdict_call}
use Rattle.model.proofs.SeriesLaws.{sum_eq}
use Rattle.model.proofs.SameVerdict.{evaluations_kept}
use Rattle.model.proofs.CheckLaws.{valid_passes, kept_passes}
use Rattle.model.proofs.OrderLaws.{answers}
use Rattle.response.proofs.ChoiceLaws.{choice_length, choice_keeps, choice_fits}
use Rattle.demand.proofs.TaskCallLaws.{call_kept}
use Rattle.choice.specs.Choices.{evaluations_for}
use Rattle.choice.specs.Planned.{PlannedChoice}

module _ (s : Tasks) (v : Valid s) (ks : List ℕ) (ws : List ℤ) (h : choice_of ordinary s s.count ≡ chosen ks ws) where
  -- at the kept jitters of a choice the verdict of each task passes its checks
  task_passes : (i : ℕ) → i < s.count → none ≡ refusal_of (task_inputs s i ks)
  task_passes i l =
      kept_passes s (column ks) (choice_keeps ordinary s ks ws h) ∙ call_kept s i ks (valid_passes s v) l (omega (arith, choice_length ordinary s ks ws h))

  -- every task is judged
  judged_each : (i : ℕ) → judges ordinary s i ≡ true
  unfolding judges
  judged_each i = refl

  -- and is "fits"
  chosen_answers
      : (i : ℕ) → i < s.count
      → (q : ℕ) × (verdict_call s i ks ≡ answered (record { says = fits (get_or ws i (pos 0)) q; evaluations = evaluations s (column ks) i }))
  unfolding verdict_call
  chosen_answers i l =
      let f = choice_fits ordinary s ks ws h i l (judged_each i) in
      let is = ap {B = Answer Judged} (λ (x : Verdict). answered (record { says = x; evaluations = evaluations s (column ks) i })) f.1 in
      (f.0, sym (answers (task_inputs s i ks) (judged s (column ks) i) (task_passes i l)) ∙ is)

pub planned_choice : PlannedChoice
unfolding evaluations_for judges
planned_choice s v r c l =
    let all : r.fitted ≡ s.count = omega (arith, c.within) in
    record {
      answers = chosen_answers s v _ _ (rw all at c.so_far);
      adds_up =
          (rw all at c.counted)
          ∙ sum_eq _ _ s.count (λ i g. evaluations_kept s (column r.keep) _ i (λ j b. sym (get_or-take s.count r.keep j 0 (omega arith))));
    }
