-- Laws of how the choice ends.
use Prim.Native.Nat.{ℕ, ◌≤◌, ◌<◌}
use mathlib.Core.Path.{◌≡◌, refl, sym, ap, ◌∙◌}
use mathlib.Core.Option.{some, none}
use mathlib.Core.List.{List}
use lib.ListN.{length}
use Rattle.model.specs.Tasks.{Tasks}
use Rattle.model.specs.Choice.{Choice, unfit, chosen, Scope, choice}
use Rattle.model.specs.Refusal.{Refusal, refused, answered}
use Rattle.model.specs.Checks.{Inputs, refusal_of}
use Rattle.model.specs.Calls.{column_after, choice_inputs, choice_call, kept_column, worst_column}
use Rattle.model.proofs.CheckLaws.{unfit_refused, chosen_passes}
use Rattle.choice.specs.Choices.{room_inputs}
use Rattle.choice.proofs.ChoiceCallLaws.{room_decides, choice_decides}
use Rattle.interface.specs.Interface.{framed_from, refusal_code, code_of, after_slots, or_too_few, scope_word, Ends}
use Rattle.interface.proofs.InterfaceLaws.{few_before}
use Rattle.nolkrada.proofs.ColumnEndLaws.{ends_stopped, ends_no_words, ends_refused, ends_answered}
use Rattle.nolkrada.specs.Runs.{choice_answer, ColumnsEnd}

module _ (sheet : List ℕ) (count charge : ℕ) (frame kept worst answer : List ℕ) where
  abbrev tasks : Tasks
  tasks = framed_from sheet count charge frame

  abbrev inputs : Inputs
  inputs = choice_inputs tasks kept worst

  abbrev keeps : List ℕ
  keeps = kept_column (choice tasks)

  abbrev worsts : List ℕ
  worsts = worst_column (choice tasks)

  -- how it ends
  abbrev ChoiceEnds : ℕ → List ℕ → List ℕ → List ℕ → Type 0
  ChoiceEnds = ColumnsEnd scope_word (choice_answer sheet count charge frame kept worst answer) keeps worsts kept worst answer

  stopped
      : (r number place : ℕ)
      → some (record { number = number; place = place }) ≡ refusal_of inputs
      → r ≡ code_of (some (or_too_few 1 (length answer) (record { number = number; place = place })))
      → ChoiceEnds r kept worst answer
  unfolding choice_answer choice_call
  stopped = ends_stopped inputs _ scope_word keeps worsts kept worst answer

  -- where no word is lent: what is refused before the choice is made ..
  pub choice_stopped
      : (r number place : ℕ)
      → some (record { number = number; place = place }) ≡ refusal_of (room_inputs tasks (length kept) (length worst))
      → r ≡ code_of (some (or_too_few 1 (length answer) (record { number = number; place = place })))
      → ChoiceEnds r kept worst answer
  choice_stopped r number place h e = stopped r number place (room_decides tasks kept worst _ h) e

  -- .. or 13, which comes before 15
  pub choice_no_words
      : (r : ℕ) → length answer < 1 → none ≡ refusal_of (room_inputs tasks (length kept) (length worst)) → r ≡ refusal_code 13 1 → ChoiceEnds r kept worst answer
  unfolding choice_answer choice_call code_of after_slots
  choice_no_words r h g e = go (choice tasks) refl
    where
      go : (o : Choice) → choice tasks ≡ o → ChoiceEnds r kept worst answer
      go (unfit i) d =
          let fifteen : Refusal = record { number = 15; place = i } in
          stopped r 15 i (unfit_refused (choice tasks) i d ∙ choice_decides tasks kept worst g)
          (e ∙ sym (ap (λ (q : Refusal). code_of (some q)) (few_before 1 (length answer) fifteen h refl)))
      go (chosen ks ws) d =
          ends_no_words inputs _ scope_word keeps worsts kept worst answer r h (chosen_passes (choice tasks) ks ws d ∙ choice_decides tasks kept worst g) e

  pub choice_refused
      : (r number place : ℕ) (kept' worst' : List ℕ)
      → 1 ≤ length answer
      → refused (record { number = number; place = place }) ≡ choice_call tasks kept worst
      → r ≡ refusal_code number place
      → kept' ≡ column_after (refusal_of inputs) keeps kept
      → worst' ≡ column_after (refusal_of inputs) worsts worst
      → ChoiceEnds r kept' worst' answer
  unfolding choice_answer choice_call
  choice_refused = ends_refused inputs _ scope_word keeps worsts kept worst answer

  pub choice_made
      : (c : Scope) (r : ℕ) (kept' worst' answer' : List ℕ)
      → 1 ≤ length answer
      → answered c ≡ choice_call tasks kept worst
      → kept' ≡ column_after (refusal_of inputs) keeps kept
      → worst' ≡ column_after (refusal_of inputs) worsts worst
      → Ends 1 (answered (scope_word c)) answer r answer'
      → ChoiceEnds r kept' worst' answer'
  unfolding choice_answer choice_call
  choice_made = ends_answered inputs _ scope_word keeps worsts kept worst answer
