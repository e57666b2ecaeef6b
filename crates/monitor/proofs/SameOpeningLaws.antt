-- An opening looks at the tasks below the count alone.
use Prim.Native.Nat.{ℕ}
use mathlib.Core.Path.{◌≡◌, ap, ap₂, ◌∙◌}
use mathlib.Core.Option.{none}
use mathlib.Core.List.{List, [], ◌∷◌}
use Rattle.model.specs.Series.{table}
use Rattle.model.specs.Tasks.{Tasks}
use Rattle.model.specs.Refusal.{first_refusal}
use Rattle.model.specs.Checks.{check_task, check_slots, check_kept, check_releases, check_count, check_choice, refusal_of}
use Rattle.model.specs.Calls.{lends, column_after}
use Rattle.model.specs.SameTasks.{SameTasks}
use Rattle.model.proofs.TableLaws.{table_agree}
use Rattle.model.proofs.SameAnswers.{tasks_same}
use Rattle.monitor.specs.Layout.{window_slots, opened_on}
use Rattle.monitor.specs.MonitorCalls.{open_inputs}
use Rattle.monitor.specs.SameOpening.{SameOpening}

module _ (s s' : Tasks) (same : SameTasks s s') (w : List ℕ) where
  refusal_same : refusal_of (open_inputs s w) ≡ refusal_of (open_inputs s' w)
  unfolding refusal_of check_task check_kept check_releases
  refusal_same =
      ap (λ t. first_refusal (t ∷ none ∷ check_count none ∷ check_slots (lends window_slots w ∷ []) ∷ none ∷ none ∷ check_choice none ∷ [])) (tasks_same s s' same)

  opened_same : opened_on s ≡ opened_on s'
  opened_same =
      ap (λ l. s.count ∷ 0 ∷ l) (table_agree s.deadline s'.deadline s.count same.deadline) ∙ ap (λ n. n ∷ 0 ∷ table s'.deadline n) same.count

pub same_opening : SameOpening
same_opening s s' same w = (refusal_same s s' same w, ap₂ (λ r l. column_after r l w) (refusal_same s s' same w) (opened_same s s' same w))
