-- The C interface of the calls that answer in two columns and a word: the run that jumps, and the choice.
use Rattle.std.specs.Prelude.{ℕ, ◌≡◌, List, length}
use Rattle.model.specs.Choice.{Scope}
use Rattle.model.specs.Refusal.{Answer}
use Rattle.model.specs.Calls.{choice_call, jump_call}
use Rattle.interface.specs.Interface.{framed_from, code_in, words_after, as_words, with_slots}

-- the run that jumps: the number of stops, with one word lent after the columns
unfoldable pub jump_answer : List ℕ → ℕ → ℕ → List ℕ → List ℕ → ℕ → List ℕ → List ℕ → List ℕ → List ℕ → List ℕ → List ℕ → Answer ℕ
jump_answer sheet count charge frame kept n task tick cost ready finish answer =
    with_slots 1 (length answer) (jump_call (framed_from sheet count charge frame) kept n task tick cost ready finish)

-- the choice: which of the two it is, with one word lent after the columns
unfoldable pub choice_answer : List ℕ → ℕ → ℕ → List ℕ → List ℕ → List ℕ → List ℕ → Answer Scope
choice_answer sheet count charge frame kept worst answer =
    with_slots 1 (length answer) (choice_call (framed_from sheet count charge frame) kept worst)

-- how such a call ends, given its answer, that as a word, and what it puts into the columns: what it returns, and what stands in the two columns and in the word
pub record ColumnsEnd {A : Type 0} (word : A → List ℕ) (a : Answer A) (firsts seconds first second answer : List ℕ) (r : ℕ) (first' second' answer' : List ℕ) : Type 0 where
  pub code : r ≡ code_in a
  pub words : answer' ≡ words_after (as_words word a) answer
  pub first_column : first' ≡ words_after (as_words (λ x. firsts) a) first
  pub second_column : second' ≡ words_after (as_words (λ x. seconds) a) second
