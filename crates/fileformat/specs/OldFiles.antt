-- "Every old file reads to the same releases": the encoding and the reader of document 01, kinds 1, 2 and 3 alone, those with R-3, kinds 1 to 4, and those with R-4,
-- kinds 1 to 5, and that the grown format keeps them. proofs/OldFileLaws.antt proves the statements under the names given here.
use Rattle.std.specs.Prelude.{ℕ, suc, ◌≤◌, ◌<◌, ◌≡◌, true, false, ◌⊎◌, List, [], ◌∷◌, ◌++◌, map, ltb, leb, length, get_or}
use Rattle.std.proofs.Math.Option.{Option, some, none}
use Rattle.model.specs.Limits.{max_tasks, max_short_tick}
use Rattle.model.specs.Tasks.{Release, release_at}
use Rattle.model.specs.Refusal.{Answer, refused, answered}
use Rattle.model.specs.Checks.{in_range}
use Rattle.taskset.specs.declared.Task.{Task}
use Rattle.taskset.specs.TaskSet.{no_task}
use Rattle.fileformat.specs.Numbers.{Bytes, bytes_of}
use Rattle.fileformat.specs.Records.{short, Record, broken, release_record, end_record, record_of, written_record}
use Rattle.fileformat.specs.File.{File, charge_records, joined, encode, task_fault, read_by, empty, decode, ValidFile}
use Rattle.fileformat.specs.RoundTrips.{IsByte}

-- document 01's task record, which has no mark: "kind 1, task: P, J, E, D, four bytes each"
unfoldable pub old_task_bytes : Task → List ℕ
old_task_bytes t = 1 ∷ (bytes_of 4 t.period ++ (bytes_of 4 t.jitter ++ (bytes_of 4 t.cost ++ bytes_of 4 t.deadline)))

unfoldable pub old_tasks : List Task → List ℕ
old_tasks [] = []
old_tasks (t ∷ l) = old_task_bytes t ++ old_tasks l

-- every task is high
abbrev pub AllHigh : List Task → Type 0
AllHigh l = (i : ℕ) → i < length l → (get_or l i no_task).low ≡ false

-- with R-4: the file of a sheet without marks
unfoldable pub unmarked_encode : File → List ℕ
unmarked_encode x = joined (charge_records x.charge) ++ (old_tasks x.tasks ++ joined (map written_record x.releases ++ (end_record ∷ [])))

-- without a charge too, given the record that a release is written as
unfoldable pub uncharged_encode : (Release → Record) → File → List ℕ
uncharged_encode rec x = old_tasks x.tasks ++ joined (map rec x.releases ++ (end_record ∷ []))

-- with R-3: in the kind of its tick
abbrev pub long_encode : File → List ℕ
long_encode = uncharged_encode written_record

-- the file of document 01: every release in a record of kind 2
abbrev pub old_encode : File → List ℕ
old_encode = uncharged_encode (release_record short)

-- document 01's limit on ticks
abbrev pub ShortTicks : List Release → Type 0
ShortTicks l = (p : ℕ) → p < length l → (release_at l p).tick ≤ max_short_tick

-- `unmarked_encoded`, `unmarked_decoded`, `unmarked_only`: a sheet of high tasks is written as with R-4, byte for byte; that file reads to the same; and a file that
-- reads to such a sheet is one of those
abbrev pub UnmarkedIsWritten : Type 0
UnmarkedIsWritten = (x : File) → AllHigh x.tasks → encode x ≡ unmarked_encode x

abbrev pub UnmarkedIsRead : Type 0
UnmarkedIsRead = (x : File) → ValidFile x → IsByte x.charge → AllHigh x.tasks → decode (unmarked_encode x) ≡ answered x

abbrev pub ReadIsUnmarked : Type 0
ReadIsUnmarked = (f : List ℕ) (x : File) → Bytes f → decode f ≡ answered x → AllHigh x.tasks → f ≡ unmarked_encode x

-- `uncharged_encoded`, `uncharged_decoded`, `uncharged_only`: the same of such a sheet without a charge, and R-3
abbrev pub UnchargedIsWritten : Type 0
UnchargedIsWritten = (x : File) → AllHigh x.tasks → x.charge ≡ 0 → encode x ≡ long_encode x

abbrev pub UnchargedIsRead : Type 0
UnchargedIsRead = (x : File) → ValidFile x → AllHigh x.tasks → x.charge ≡ 0 → decode (long_encode x) ≡ answered x

abbrev pub ReadIsUncharged : Type 0
ReadIsUncharged = (f : List ℕ) (x : File) → Bytes f → decode f ≡ answered x → AllHigh x.tasks → x.charge ≡ 0 → f ≡ long_encode x

-- `old_encoded`: and with a list within document 01's limit on ticks as document 01 writes it, byte for byte
abbrev pub OldIsWritten : Type 0
OldIsWritten = (x : File) → AllHigh x.tasks → x.charge ≡ 0 → ShortTicks x.releases → encode x ≡ old_encode x

-- `old_decoded`: the file that document 01 gives for a sheet and a list within its limits reads to that sheet, its tasks high, and list
abbrev pub OldIsRead : Type 0
OldIsRead = (x : File) → ValidFile x → AllHigh x.tasks → x.charge ≡ 0 → ShortTicks x.releases → decode (old_encode x) ≡ answered x

-- `old_only`: and a file that reads to a sheet of high tasks without a charge and releases within document 01's limit is one of document 01's
abbrev pub ReadIsOld : Type 0
ReadIsOld = (f : List ℕ) (x : File) → Bytes f → decode f ≡ answered x → AllHigh x.tasks → x.charge ≡ 0 → ShortTicks x.releases → f ≡ old_encode x

-- the record with which some bytes begin, as it was before kind k: kinds from k on are none
unfoldable pub old_record : ℕ → List ℕ → Record
old_record k [] = record_of []
old_record k (b ∷ l) = elim (leb k b) [ true ↦ broken 1 | false ↦ record_of (b ∷ l) ]

-- what the reader before kind k answers: document 01's is that before kind 4, R-3's that before kind 5, R-4's that before kind 6. In a record of kind 2 a tick over
-- 1,000,000,000 is refused as in document 01, and before kind 5 17 is not reached (`OldTask`)
unfoldable pub old_decode : ℕ → List ℕ → Answer File
old_decode k f = read_by (old_record k) (suc (length f)) empty 0 f

-- the largest kind
abbrev pub last_kind : ℕ
last_kind = 6

-- `old_answered`: every file is answered as the reader before a kind answers it, with the same refusal where it is refused, unless what decides there is that the
-- file has a record of that kind or of a later one
abbrev pub OldIsAnswered : Type 0
OldIsAnswered =
    (k : ℕ) (f : List ℕ)
    → (old_decode k f ≡ decode f)
    ⊎ ((p : ℕ) × (k ≤ get_or f p 0) × (get_or f p 0 ≤ last_kind) × (old_decode k f ≡ refused (record { number = 1; place = p })))

-- what is wrong with a task record as document 01 has it: 3, 4, 6
unfoldable pub old_task_fault : ℕ → ℕ → Task → Option ℕ
old_task_fault tasks releases t =
    elim (ltb 0 releases) [
      | true ↦ some 3
      | false ↦
          elim (leb max_tasks tasks) [
            | true ↦ some 4
            | false ↦ elim (in_range t.period t.jitter t.cost t.deadline) [ false ↦ some 6 | true ↦ none ]
          ]
    ]

-- `old_task`: without a charge that is what a task record is checked for
abbrev pub OldTask : Type 0
OldTask = (tasks releases : ℕ) (t : Task) → task_fault 0 tasks releases t ≡ old_task_fault tasks releases t
