-- The C interface of read and write: words and numbers from a file.
use Rattle.std.specs.Prelude.{ℕ, ◌≡◌, List, [], ◌∷◌, length}
use Rattle.std.proofs.Math.Option.{some, none}
use Rattle.model.specs.Refusal.{Answer, refused, answered}
use Rattle.model.specs.Checks.{Lent, check_slots, answer_of}
use Rattle.taskset.specs.declared.Task.{Task}
use Rattle.taskset.specs.TaskSet.{view_of}
use Rattle.fileformat.specs.File.{File, encode, decode}
use Rattle.fileformat.specs.FileCalls.{set_of, read_column, write_inputs, file_of}
use Rattle.interface.specs.Interface.{sheet_from, code_in, words_after, as_words, with_slots}
use Rattle.interface.specs.TaskNumbers.{numbers_of}

-- a file as three words: how many tasks and releases it has, and its charge
unfoldable pub file_words : File → List ℕ
file_words x = length x.tasks ∷ length x.releases ∷ x.charge ∷ []

-- the sheet of some tasks as 160 numbers, those of the entries past the tasks being 0
unfoldable pub entry_numbers : List Task → List ℕ
entry_numbers ts = numbers_of (set_of ts).tasks

-- the sheet of a file
unfoldable pub sheet_numbers : File → List ℕ
sheet_numbers x = entry_numbers x.tasks

-- a lent slice of which n slots are needed
abbrev pub slots : ℕ → ℕ → Lent
slots n have = record { needed = n; slots = have }

-- the slices lent to a read of m releases, given how many slots each has: the sheet, the columns and then the words
abbrev pub read_lent : ℕ → ℕ → ℕ → ℕ → ℕ → ℕ → List Lent
read_lent m sheet task tick cost answer = slots 160 sheet ∷ slots m task ∷ slots m tick ∷ slots m cost ∷ slots 3 answer ∷ []

-- a file to which they are lent: what is wrong with the file, then 13 for the first slice that is too short
unfoldable pub read_within : Answer File → ℕ → ℕ → ℕ → ℕ → ℕ → Answer File
read_within (refused q) sheet task tick cost answer = refused q
read_within (answered x) sheet task tick cost answer =
    elim (check_slots (read_lent (length x.releases) sheet task tick cost answer)) [ none ↦ answered x | some q ↦ refused q ]

-- read: what a file answers with the slices lent
unfoldable pub read_answer : List ℕ → List ℕ → List ℕ → List ℕ → List ℕ → List ℕ → Answer File
read_answer f sheet task tick cost answer = read_within (decode f) (length sheet) (length task) (length tick) (length cost) (length answer)

-- how a read ends: what it returns, and what stands in the lent slices
pub record ReadEnds (a : Answer File) (sheet task tick cost answer : List ℕ) (r : ℕ) (sheet' task' tick' cost' answer' : List ℕ) : Type 0 where
  pub code : r ≡ code_in a
  pub words : answer' ≡ words_after (as_words file_words a) answer
  pub numbers : sheet' ≡ words_after (as_words sheet_numbers a) sheet
  pub task_column : task' ≡ read_column (λ q. q.task) a task
  pub tick_column : tick' ≡ read_column (λ q. q.tick) a tick
  pub cost_column : cost' ≡ read_column (λ q. q.cost) a cost

-- write: the bytes of the file, with one word lent after them
unfoldable pub write_answer : List ℕ → ℕ → ℕ → ℕ → List ℕ → List ℕ → List ℕ → List ℕ → List ℕ → Answer (List ℕ)
write_answer sheet count charge n task tick cost out answer =
    with_slots 1 (length answer)
    (answer_of (write_inputs (view_of (sheet_from sheet count charge)) n task tick cost (length out)) (encode (file_of (sheet_from sheet count charge) n task tick cost)))

-- how a write ends: what it returns, and what stands in the lent bytes and in the word
pub record WriteEnds (a : Answer (List ℕ)) (out answer : List ℕ) (r : ℕ) (out' answer' : List ℕ) : Type 0 where
  pub code : r ≡ code_in a
  pub words : answer' ≡ words_after (as_words (λ (l : List ℕ). length l ∷ []) a) answer
  pub bytes : out' ≡ words_after a out
