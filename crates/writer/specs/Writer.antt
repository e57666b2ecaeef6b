-- What an answer of the writer means, and what a write promises.
use Rattle.std.specs.Prelude.{ℕ, suc, ◌≤◌, ◌<◌, ◌≡◌, List, ◌++◌, map, length, get_or, drop, Result}
use Rattle.std.proofs.lemmas.List.Edits.{sets}
use Rattle.model.specs.Refusal.{Answer}
use Rattle.model.specs.Checks.{refusal_of, answer_of}
use Rattle.model.specs.Limits.{max_short_tick}
use Rattle.model.specs.Tasks.{Release}
use Rattle.model.specs.Calls.{releases_of, column_after}
use Rattle.refusal.specs.declared.Refusal.{Refusal}
use Rattle.refusal.specs.Refusal as refusal
use Rattle.taskset.specs.declared.Task.{Task}
use Rattle.taskset.specs.declared.TaskSet.{TaskSet}
use Rattle.taskset.specs.TaskSet.{view_of}
use Rattle.fileformat.specs.Numbers.{bytes_of}
use Rattle.fileformat.specs.Records.{Width, task_record, width_for}
use Rattle.fileformat.specs.File.{charge_records, joined, encode}
use Rattle.fileformat.specs.FileCalls.{tasks_in, write_inputs, file_of}

-- some bytes, with others stored from an offset on
unfoldable pub stored : List ℕ → ℕ → List ℕ → List ℕ
stored = sets

-- the bytes of the four numbers of a task
abbrev pub number_bytes : Task → List ℕ
number_bytes t = bytes_of 4 t.period ++ (bytes_of 4 t.jitter ++ (bytes_of 4 t.cost ++ bytes_of 4 t.deadline))

-- the bytes of a sheet: those of its charge and of its tasks
abbrev pub sheet_part : TaskSet → List ℕ
sheet_part s = joined (charge_records s.charge) ++ joined (map task_record (tasks_in s))

-- the releases of three columns from the place first up to last
abbrev pub part : ℕ → ℕ → List ℕ → List ℕ → List ℕ → List Release
part first last task tick cost = drop first (releases_of last task tick cost)

-- they are written as records of one kind
abbrev pub Alike : Width → ℕ → ℕ → List ℕ → Type 0
Alike w first last tick = (p : ℕ) → first ≤ p → p < last → width_for (get_or tick p 0) ≡ w

-- n ticks that never fall
abbrev pub Rising : ℕ → List ℕ → Type 0
Rising n tick = (p : ℕ) → suc p < n → get_or tick p 0 ≤ get_or tick (suc p) 0

-- of n ticks those from the place k on are over 1,000,000,000, and the one before it, if there is one, is not
pub record Cut (n : ℕ) (tick : List ℕ) (k : ℕ) : Type 0 where
  pub within : k ≤ n
  pub longs : (p : ℕ) → k ≤ p → p < n → max_short_tick < get_or tick p 0
  pub short_before : (p : ℕ) → suc p ≡ k → get_or tick p 0 ≤ max_short_tick

-- the answer of a write: the number of bytes
abbrev pub answer_in : Result ℕ Refusal → Answer ℕ
answer_in = refusal.answer_in (λ n. n)

-- the answer is the number of bytes of the file, which stand in the lent bytes afterwards
pub record WriteSays (s : TaskSet) (n : ℕ) (task tick cost out : List ℕ) (r : Result ℕ Refusal) (out' : List ℕ) : Type 0 where
  pub answer : answer_in r ≡ answer_of (write_inputs (view_of s) n task tick cost (length out)) (length (encode (file_of s n task tick cost)))
  pub bytes : out' ≡ column_after (refusal_of (write_inputs (view_of s) n task tick cost (length out))) (encode (file_of s n task tick cost)) out
