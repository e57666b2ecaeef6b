-- Texts and sheets: both ways between them, which line decides, and the same numbers as kind 1 records. The laws named here prove the statements
-- (proofs/LineLaws.antt, proofs/TextTrips.antt, proofs/TextPlaces.antt, proofs/TextLength.antt, proofs/EarliestLine.antt, proofs/RecordTrips.antt,
-- proofs/AnyNumbers.antt).
use Rattle.std.specs.Prelude.{ℕ, ◌*◌, ◌≤◌, ◌<◌, min, ◌≡◌, true, false, ◌⊎◌, List, [], ◌∷◌, ◌++◌, map, length, get_or}
use Rattle.std.proofs.Math.Option.{none}
use Rattle.model.specs.Refusal.{Refusal, Answer, refused, answered}
use Rattle.model.specs.Checks.{check_tasks}
use Rattle.taskset.specs.declared.Task.{Task}
use Rattle.taskset.specs.TaskSet.{no_task}
use Rattle.fileformat.specs.OldFiles.{AllHigh}
use Rattle.fileformat.specs.File.{File, sheet_of, task_fault, encode, decode}
use Rattle.text.specs.Text.{line_feed}
use Rattle.textformat.specs.Lines.{Line, lines_of}
use Rattle.textformat.specs.TextSheet.{has_form, task_in, load, line_text, text_of}

-- `fields_in_order`: "6,5,2,7" and a line feed is the high task with P 6, J 5, E 2, D 7
abbrev pub FieldsInOrder : Type 0
FieldsInOrder =
    load (54 ∷ 44 ∷ 53 ∷ 44 ∷ 50 ∷ 44 ∷ 55 ∷ 10 ∷ []) ≡ answered (record { period = 6; jitter = 5; cost = 2; deadline = 7; low = false } ∷ [])

-- the high task with the same numbers
abbrev pub as_high : Task → Task
as_high t = record { period = t.period; jitter = t.jitter; cost = t.cost; deadline = t.deadline; low = false }

-- `text_loads`: the text of every valid sheet loads to that sheet with each task high, so a sheet of high tasks to that sheet (`high_same`)
abbrev pub TextLoads : Type 0
TextLoads = (ts : List Task) → check_tasks (sheet_of ts) ≡ none → load (text_of ts) ≡ answered (map as_high ts)

abbrev pub HighIsSame : Type 0
HighIsSame = (ts : List Task) → AllHigh ts → map as_high ts ≡ ts

-- `loaded_high`: every task that is loaded is high
abbrev pub LoadedIsHigh : Type 0
LoadedIsHigh = (text : List ℕ) (ts : List Task) → load text ≡ answered ts → AllHigh ts

-- `loaded_is_text`: an accepted text is the text of its sheet, byte for byte
abbrev pub LoadedIsText : Type 0
LoadedIsText = (text : List ℕ) (ts : List Task) → load text ≡ answered ts → text_of ts ≡ text

-- `loaded_valid`: what is loaded is within document 01's limits
abbrev pub LoadedIsValid : Type 0
LoadedIsValid = (text : List ℕ) (ts : List Task) → load text ≡ answered ts → check_tasks (sheet_of ts) ≡ none

-- `text_numbers`: a text is refused with 4, 5, 6 or 16; without a charge 17 is not reached
abbrev pub TextNumber : ℕ → Type 0
TextNumber n = (n ≡ 4) ⊎ (n ≡ 5) ⊎ (n ≡ 6) ⊎ (n ≡ 16)

abbrev pub TextNumbers : Type 0
TextNumbers = (text : List ℕ) (r : Refusal) → load text ≡ refused r → TextNumber r.number

-- 32 lines of four numbers of 7 digits, three commas and a line feed
abbrev pub max_text : ℕ
max_text = 1024

-- `loaded_short`: no longer text is accepted
abbrev pub LoadedIsShort : Type 0
LoadedIsShort = (text : List ℕ) (ts : List Task) → load text ≡ answered ts → length text ≤ max_text

-- the bytes of a line, with the line feed where one ends it
unfoldable pub line_bytes : Line → List ℕ
line_bytes x = elim x.ended [ true ↦ x.bytes ++ (line_feed ∷ []) | false ↦ x.bytes ]

-- `form_is_text`: a line of the form is the line of the task that it gives, its line feed included
abbrev pub FormIsText : Type 0
FormIsText = (x : Line) → has_form x ≡ true → line_bytes x ≡ line_text (task_in x)

-- `text_has_form`: the line of a task of any numbers is one line, has the form and gives the high task with those numbers
pub record HasForm (t : Task) : Type 0 where
  pub line : Line
  pub alone : lines_of (line_text t) ≡ line ∷ []
  pub formed : has_form line ≡ true
  pub task : task_in line ≡ as_high t

abbrev pub TextHasForm : Type 0
TextHasForm = (t : Task) → HasForm t

-- lines one after the other, each with the line feed that ends it
unfoldable pub lines_text : List Line → List ℕ
lines_text [] = []
lines_text (x ∷ l) = line_bytes x ++ lines_text l

-- `lines_join`: the lines of a text are the text
abbrev pub LinesJoin : Type 0
LinesJoin = (text : List ℕ) → lines_text (lines_of text) ≡ text

-- `other_form`: a line of another form after lines that are accepted is 16 with its number, whatever follows it and whatever numbers it has
abbrev pub OtherForm : Type 0
OtherForm =
    (ts : List Task) (rest : List ℕ) (x : Line) (l : List Line) → ((i : ℕ) → i < length ts → task_fault 0 i 0 (get_or ts i no_task) ≡ none)
    → lines_of rest ≡ x ∷ l → has_form x ≡ false → load (text_of ts ++ rest) ≡ refused (record { number = 16; place = length ts })

-- `earlier_decides`: lines of the form that are refused decide, whatever follows them; 5 is said of the end alone
abbrev pub EarlierDecides : Type 0
EarlierDecides =
    (ts : List Task) (rest : List ℕ) (r : Refusal) → load (text_of ts) ≡ refused r → (r.number ≡ 5 → ⊥) → load (text_of ts ++ rest) ≡ refused r

-- the file of some tasks without a charge: kind 1 records and an end record
abbrev pub tasks_alone : List Task → File
tasks_alone ts = record { charge = 0; tasks = ts; releases = [] }

-- `loaded_is_read`: the sheet that is loaded is the one that the same numbers give as kind 1 records
abbrev pub LoadedIsRead : Type 0
LoadedIsRead = (text : List ℕ) (ts : List Task) → load text ≡ answered ts → decode (encode (tasks_alone ts)) ≡ answered (tasks_alone ts)

-- the high task whose numbers are those of a task cut at c: a larger one counts as c
abbrev pub cut_at : ℕ → Task → Task
cut_at c t = record { period = min c t.period; jitter = min c t.jitter; cost = min c t.cost; deadline = min c t.deadline; low = false }

-- at the largest number that four bytes hold, which is over every limit
abbrev pub cut : Task → Task
cut = cut_at 4294967295

-- what a text answers, as the answer of the file with the same numbers: line n is the record at 17n
unfoldable pub in_records : Answer (List Task) → Answer File
in_records (refused r) = refused (record { number = r.number; place = 17 * r.place })
in_records (answered ts) = answered (tasks_alone ts)

-- `same_as_records`: numbers of any size, as far as four bytes hold them: it applies 4, 5 and 6 as a file does, with the line number as place
abbrev pub SameAsRecords : Type 0
SameAsRecords = (ts : List Task) → decode (encode (tasks_alone (map cut ts))) ≡ in_records (load (text_of ts))
