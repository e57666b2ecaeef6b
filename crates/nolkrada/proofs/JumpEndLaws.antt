-- Laws of how the run that jumps ends.
use Prim.Native.Nat.{ℕ, ◌≤◌, ◌<◌}
use mathlib.Core.Path.{◌≡◌}
use mathlib.Core.Option.{some, none}
use mathlib.Core.List.{List, [], ◌∷◌}
use lib.ListN.{length}
use Rattle.model.specs.Choice.{column}
use Rattle.model.specs.Refusal.{refused, answered}
use Rattle.model.specs.Checks.{Inputs, refusal_of}
use Rattle.model.specs.Ready.{ready_list}
use Rattle.model.specs.Run.{finish_list}
use Rattle.model.specs.Calls.{releases_of, column_after, run_inputs, jump_call}
use Rattle.interface.specs.Interface.{framed_from, refusal_code, code_of, or_too_few, one_word, Ends}
use Rattle.nolkrada.proofs.ColumnEndLaws.{ends_stopped, ends_no_words, ends_refused, ends_answered}
use Rattle.nolkrada.specs.Runs.{jump_answer, ColumnsEnd}

module _ (sheet : List ℕ) (count charge : ℕ) (frame kept : List ℕ) (n : ℕ) (task tick cost ready finish answer : List ℕ) where
  abbrev inputs : Inputs
  inputs = run_inputs (framed_from sheet count charge frame) kept n task tick cost ready finish

  abbrev readies : List ℕ
  readies = ready_list (framed_from sheet count charge frame) (column kept) (releases_of n task tick cost)

  abbrev finishes : List ℕ
  finishes = finish_list (framed_from sheet count charge frame) (column kept) (releases_of n task tick cost)

  -- how it ends
  abbrev JumpEnds : ℕ → List ℕ → List ℕ → List ℕ → Type 0
  JumpEnds = ColumnsEnd one_word (jump_answer sheet count charge frame kept n task tick cost ready finish answer) readies finishes ready finish answer

  -- where no word is lent: the refusal of the call without it, unless 13 comes first
  pub jump_stopped
      : (r number place : ℕ)
      → some (record { number = number; place = place }) ≡ refusal_of inputs
      → r ≡ code_of (some (or_too_few 1 (length answer) (record { number = number; place = place })))
      → JumpEnds r ready finish answer
  unfolding jump_answer jump_call
  jump_stopped = ends_stopped inputs _ one_word readies finishes ready finish answer

  pub jump_no_words : (r : ℕ) → length answer < 1 → none ≡ refusal_of inputs → r ≡ refusal_code 13 1 → JumpEnds r ready finish answer
  unfolding jump_answer jump_call
  jump_no_words = ends_no_words inputs _ one_word readies finishes ready finish answer

  pub jump_refused
      : (r number place : ℕ) (ready' finish' : List ℕ)
      → 1 ≤ length answer
      → refused (record { number = number; place = place }) ≡ jump_call (framed_from sheet count charge frame) kept n task tick cost ready finish
      → r ≡ refusal_code number place
      → ready' ≡ column_after (refusal_of inputs) readies ready
      → finish' ≡ column_after (refusal_of inputs) finishes finish
      → JumpEnds r ready' finish' answer
  unfolding jump_answer jump_call
  jump_refused = ends_refused inputs _ one_word readies finishes ready finish answer

  pub jump_ran
      : (k r : ℕ) (ready' finish' answer' : List ℕ)
      → 1 ≤ length answer
      → answered k ≡ jump_call (framed_from sheet count charge frame) kept n task tick cost ready finish
      → ready' ≡ column_after (refusal_of inputs) readies ready
      → finish' ≡ column_after (refusal_of inputs) finishes finish
      → Ends 1 (answered (k ∷ [])) answer r answer'
      → JumpEnds r ready' finish' answer'
  unfolding jump_answer jump_call
  jump_ran = ends_answered inputs _ one_word readies finishes ready finish answer
