-- Reading and writing of a whole file. "All tasks come first, then releases with ticks that never fall, then one end record, then nothing";
-- "a kind 5 record, at most one and before all tasks" (document 02, R-4).
use Rattle.std.specs.Prelude.{ℕ, zero, suc, ◌+◌, ◌≤◌, max, ◌≡◌, true, false, ◌||◌, List, [], ◌∷◌, ◌++◌, map, ltb, leb, eqb, length, get_or, drop}
use Rattle.std.proofs.Math.Option.{Option, some, none}
use Rattle.model.specs.Limits.{max_tasks, max_releases, max_tick, max_short_tick}
use Rattle.model.specs.Tasks.{Tasks, Release}
use Rattle.model.specs.Refusal.{Answer, refused, answered}
use Rattle.model.specs.Checks.{entry_fault, release_fault, check_tasks, check_releases}
use Rattle.taskset.specs.declared.Task.{Task}
use Rattle.taskset.specs.TaskSet.{no_task}
use Rattle.fileformat.specs.Records.{Width, short, long, Record, broken, wrong_mark, task_record, release_record, charge_record, end_record}
use Rattle.fileformat.specs.Records.{record_of, record_bytes, size_of, written_record}

-- what a file holds; a charge of 0 where it has none
pub record File : Type 0 where
  pub charge : ℕ
  pub tasks : List Task
  pub releases : List Release

-- the sheet of a charge and a list of tasks; files hold no frame
abbrev pub sheet_with : ℕ → List Task → Tasks
sheet_with c l = record {
  count = length l;
  period = λ i. (get_or l i no_task).period;
  jitter = λ i. (get_or l i no_task).jitter;
  cost = λ i. (get_or l i no_task).cost;
  deadline = λ i. (get_or l i no_task).deadline;
  low = λ i. (get_or l i no_task).low;
  charge = c;
  frame = none;
}

-- without a charge
abbrev pub sheet_of : List Task → Tasks
sheet_of = sheet_with 0

-- of a file
abbrev pub sheet_in : File → Tasks
sheet_in x = sheet_with x.charge x.tasks

-- a charge is written where it is not 0
unfoldable pub charge_records : ℕ → List Record
charge_records c = elim (eqb c 0) [ true ↦ [] | false ↦ charge_record c ∷ [] ]

-- the records of a file, in order
unfoldable pub records_of : File → List Record
records_of x = charge_records x.charge ++ (map task_record x.tasks ++ (map written_record x.releases ++ (end_record ∷ [])))

unfoldable pub joined : List Record → List ℕ
joined [] = []
joined (r ∷ l) = record_bytes r ++ joined l

-- the bytes of a file
unfoldable pub encode : File → List ℕ
encode x = joined (records_of x)

-- what is read so far: the charge, 0 before its record, tasks, releases and the last release's tick
pub record State : Type 0 where
  pub charge : ℕ
  pub tasks : List Task
  pub releases : List Release
  pub before : ℕ

-- what a record does: it is refused with a number, or it is taken, or it is the end record
pub data Step : Type 0 where
  stop : ℕ → Step
  next : State → Step
  last : Step

-- what is wrong with a charge record after so many tasks and releases, the charge so far being given, the lower number first: 3, a second one, or one after a task
-- or a release; 6, a charge of 0
unfoldable pub charge_fault : ℕ → ℕ → ℕ → ℕ → Option ℕ
charge_fault held tasks releases c =
    elim (ltb 0 held || ltb 0 tasks || ltb 0 releases) [ true ↦ some 3 | false ↦ elim (eqb c 0) [ true ↦ some 6 | false ↦ none ] ]

-- with a task record, the charge being given: 3, after a release; 4, over 32 tasks; 6, outside its range; 17, E + S over P or D
unfoldable pub task_fault : ℕ → ℕ → ℕ → Task → Option ℕ
task_fault charge tasks releases t =
    elim (ltb 0 releases) [
      | true ↦ some 3
      | false ↦
          elim (leb max_tasks tasks) [
            | true ↦ some 4
            | false ↦ entry_fault charge t.period t.jitter t.cost t.deadline
          ]
    ]

-- with a kind 6 record whose last byte is not 0, the lower number first: 3, after a release; 4, over 32 tasks; 6
unfoldable pub mark_fault : ℕ → ℕ → ℕ
mark_fault tasks releases = elim (ltb 0 releases) [ true ↦ 3 | false ↦ elim (leb max_tasks tasks) [ true ↦ 4 | false ↦ 6 ] ]

-- the ticks that a release record may have, the tick before being given: "the reader refuses with 8 a kind 2 above [1,000,000,000] and a kind 4 up to it"
abbrev pub low_tick : Width → ℕ → ℕ
low_tick short before = before
low_tick long before = max before (suc max_short_tick)

abbrev pub high_tick : Width → ℕ
high_tick short = max_short_tick
high_tick long = max_tick

-- with a release record after so many releases, the tick before being given: 5, before any task; 7, 8, 9; 10, over 1,024 releases
unfoldable pub list_fault : Tasks → ℕ → ℕ → Width → Release → Option ℕ
list_fault s releases before w r =
    elim (eqb s.count 0) [
      | true ↦ some 5
      | false ↦
          elim (release_fault s (low_tick w before) (high_tick w) r) [
            | some n ↦ some n
            | none ↦ elim (leb max_releases releases) [ true ↦ some 10 | false ↦ none ]
          ]
    ]

-- with the end record after so many tasks: 5, before any task
unfoldable pub end_fault : ℕ → Option ℕ
end_fault tasks = elim (eqb tasks 0) [ true ↦ some 5 | false ↦ none ]

-- what is read, with the charge, one task or one release more
abbrev pub with_charge : State → ℕ → State
with_charge s c = record { charge = c; tasks = s.tasks; releases = s.releases; before = s.before }

abbrev pub with_task : State → Task → State
with_task s t = record { charge = s.charge; tasks = s.tasks ++ (t ∷ []); releases = s.releases; before = s.before }

abbrev pub with_release : State → Release → State
with_release s r = record { charge = s.charge; tasks = s.tasks; releases = s.releases ++ (r ∷ []); before = r.tick }

unfoldable pub unless : Option ℕ → Step → Step
unless none t = t
unless (some n) t = stop n

-- "within a record the lower number" decides
unfoldable pub advance : State → Record → Step
advance s (broken n) = stop n
advance s wrong_mark = stop (mark_fault (length s.tasks) (length s.releases))
advance s (task_record t) = unless (task_fault s.charge (length s.tasks) (length s.releases) t) (next (with_task s t))
advance s (release_record w r) = unless (list_fault (sheet_with s.charge s.tasks) (length s.releases) s.before w r) (next (with_release s r))
advance s (charge_record c) = unless (charge_fault s.charge (length s.tasks) (length s.releases) c) (next (with_charge s c))
advance s end_record = unless (end_fault (length s.tasks)) last

-- after the end record: 11, a byte follows
unfoldable pub after_end : State → ℕ → List ℕ → Answer File
after_end s at [] = answered (record { charge = s.charge; tasks = s.tasks; releases = s.releases })
after_end s at (b ∷ l) = refused (record { number = 11; place = at })

-- the bytes from an offset on, for at most n records, given which record some bytes begin with: "the earliest record decides"
unfoldable pub read_by : (List ℕ → Record) → ℕ → State → ℕ → List ℕ → Answer File
read_by rec zero s at f = refused (record { number = 2; place = at })
read_by rec (suc n) s at f =
    elim (advance s (rec f)) [
      | stop k ↦ refused (record { number = k; place = at })
      | next s' ↦ read_by rec n s' (at + size_of (rec f)) (drop (size_of (rec f)) f)
      | last ↦ after_end s (at + size_of (rec f)) (drop (size_of (rec f)) f)
    ]

abbrev pub read_from : ℕ → State → ℕ → List ℕ → Answer File
read_from = read_by record_of

-- nothing is read yet
abbrev pub empty : State
empty = record { charge = 0; tasks = []; releases = []; before = 0 }

-- a whole file: each record has at least one byte, so that there are not more records than bytes, and one more place where a kind is due
unfoldable pub decode : List ℕ → Answer File
decode f = read_from (suc (length f)) empty 0 f

-- a sheet and releases within the limits
pub record ValidFile (x : File) : Type 0 where
  pub tasks : check_tasks (sheet_in x) ≡ none
  pub releases : check_releases (sheet_in x) 0 0 x.releases ≡ none
  pub few : length x.releases ≤ max_releases
