-- The C interface of load: a word and numbers from a text.
use Rattle.std.specs.Prelude.{ℕ, ◌≡◌, List, [], ◌∷◌, length}
use Rattle.std.proofs.Math.Option.{some, none}
use Rattle.model.specs.Refusal.{Answer, refused, answered}
use Rattle.model.specs.Checks.{Lent, check_slots}
use Rattle.taskset.specs.declared.Task.{Task}
use Rattle.textformat.specs.TextSheet.{load}
use Rattle.interface.specs.Interface.{code_in, words_after, as_words}
use Rattle.nolkrada.specs.Files.{entry_numbers, slots}

-- what is loaded as one word: how many tasks
unfoldable pub text_word : List Task → List ℕ
text_word ts = length ts ∷ []

-- the slices lent to a load, given how many slots each has: the sheet and then the word
abbrev pub load_lent : ℕ → ℕ → List Lent
load_lent sheet answer = slots 160 sheet ∷ slots 1 answer ∷ []

-- a text to which they are lent: what is wrong with the text, then 13 for the first slice that is too short
unfoldable pub load_within : Answer (List Task) → ℕ → ℕ → Answer (List Task)
load_within (refused q) sheet answer = refused q
load_within (answered ts) sheet answer = elim (check_slots (load_lent sheet answer)) [ none ↦ answered ts | some q ↦ refused q ]

-- load: what a text answers with the slices lent
unfoldable pub load_answer : List ℕ → List ℕ → List ℕ → Answer (List Task)
load_answer text sheet answer = load_within (load text) (length sheet) (length answer)

-- how a load ends: what it returns, and what stands in the lent slices
pub record LoadEnds (a : Answer (List Task)) (sheet answer : List ℕ) (r : ℕ) (sheet' answer' : List ℕ) : Type 0 where
  pub code : r ≡ code_in a
  pub words : answer' ≡ words_after (as_words text_word a) answer
  pub numbers : sheet' ≡ words_after (as_words entry_numbers a) sheet
