-- What the reader's structs and answers mean.
use Rattle.std.specs.Prelude.{ℕ, zero, suc, ◌+◌, ◌≤◌, ◌<◌, ◌≡◌, List, map, length, take, drop, Result, IfOk}
use Rattle.std.proofs.Math.Option.{none}
use Rattle.model.specs.Limits.{max_tasks}
use Rattle.model.specs.Calls.{column_after}
use Rattle.model.specs.Series.{table}
use Rattle.model.specs.Tasks.{Release, no_release}
use Rattle.model.specs.Refusal.{Answer}
use Rattle.refusal.specs.declared.Refusal.{Refusal}
use Rattle.refusal.specs.Refusal.{answer_in}
use Rattle.fileformat.specs.Records.{Width, Record, broken, wrong_mark, task_record, release_record, charge_record, end_record, record_of, size_of}
use Rattle.fileformat.specs.File.{File, decode}
use Rattle.taskset.specs.declared.TaskSet.{TaskSet}
use Rattle.taskset.specs.TaskSet.{view_of}
use Rattle.fileformat.specs.FileCalls.{tasks_in, sheet_bytes, read_call, read_count, read_sheet, read_column}
use Rattle.reader.specs.declared.Scanned.{Scanned}
use Rattle.reader.specs.declared.ReadAnswer.{ReadAnswer}

-- the record at an offset of a file, and the offset of the record r places after one
abbrev pub record_there : List ℕ → ℕ → Record
record_there f at = record_of (drop at f)

unfoldable pub offset_of : List ℕ → ℕ → ℕ → ℕ
offset_of f start zero = start
offset_of f start (suc r) = offset_of f start r + size_of (record_there f (offset_of f start r))

-- the release of a release record
unfoldable pub release_in : Record → Release
release_in (broken n) = no_release
release_in wrong_mark = no_release
release_in (task_record t) = no_release
release_in (release_record w r) = r
release_in (charge_record c) = no_release
release_in end_record = no_release

-- the n releases whose records stand one after another from an offset of a file on
unfoldable pub releases_at : List ℕ → ℕ → ℕ → List Release
releases_at f start n = table (λ r. release_in (record_there f (offset_of f start r))) n

-- and that they are release records
abbrev pub AreReleases : List ℕ → ℕ → ℕ → Type 0
AreReleases f start n = (r : ℕ) → r < n → (w : Width) × (q : Release) × (release_record w q ≡ record_there f (offset_of f start r))

-- three columns after a list of releases was written to them: slots past it keep what they held
pub record Listed (l : List Release) (task tick cost task' tick' cost' : List ℕ) : Type 0 where
  pub task_column : task' ≡ column_after none (map (λ r. r.task) l) task
  pub tick_column : tick' ≡ column_after none (map (λ r. r.tick) l) tick
  pub cost_column : cost' ≡ column_after none (map (λ r. r.cost) l) cost

-- a column of which the first i slots are written
pub record Copied (vals held now : List ℕ) (i : ℕ) : Type 0 where
  pub front : take i now ≡ take i vals
  pub kept : drop i now ≡ drop i held
  pub long : length now ≡ length held

-- the three columns, of which the first i slots are written; the next record stands at an offset
pub record Putting (f : List ℕ) (start count : ℕ) (task₀ tick₀ cost₀ task tick cost : List ℕ) (at i : ℕ) : Type 0 where
  pub stand : AreReleases f start count
  pub offset : at ≡ offset_of f start i
  pub inside : at ≤ length f
  pub within : i ≤ count
  pub task_long : count ≤ length task
  pub tick_long : count ≤ length tick
  pub cost_long : count ≤ length cost
  pub task_copied : Copied (map (λ r. r.task) (releases_at f start count)) task₀ task i
  pub tick_copied : Copied (map (λ r. r.tick) (releases_at f start count)) tick₀ tick i
  pub cost_copied : Copied (map (λ r. r.cost) (releases_at f start count)) cost₀ cost i

-- where the releases of a file begin: after the charge and the tasks of its sheet
abbrev pub start_in : TaskSet → ℕ
start_in s = sheet_bytes (view_of s)

-- what a scan found: its charge and tasks, and the releases whose records follow theirs
abbrev pub file_in : List ℕ → Scanned → File
file_in f r = record { charge = r.tasks.charge; tasks = tasks_in r.tasks; releases = releases_at f (start_in r.tasks) r.releases }

-- what a scan promises of what it found: charge and tasks are those of the file, and the records that follow theirs, from the offset given on, are releases
pub record ScanFinds (f : List ℕ) (r : Scanned) : Type 0 where
  pub sheet : r.tasks ≡ read_sheet (decode f)
  pub few_tasks : r.tasks.count ≤ max_tasks
  pub begins : r.start ≡ start_in r.tasks
  pub inside : start_in r.tasks ≤ length f
  pub stand : AreReleases f (start_in r.tasks) r.releases

-- and of its answer: it is the file's
pub record ScanSays (f : List ℕ) (r : Result Scanned Refusal) : Type 0 where
  pub answer : answer_in (file_in f) r ≡ decode f
  pub found : IfOk r (ScanFinds f)

-- the answer of a read: the number of releases
abbrev pub outcome_in : Result ReadAnswer Refusal → Answer ℕ
outcome_in = answer_in (λ a. a.releases)

-- what a read promises of its answer and of the columns afterwards
pub record ReadSays (f task tick cost : List ℕ) (r : Result ReadAnswer Refusal) (task' tick' cost' : List ℕ) : Type 0 where
  pub outcome : outcome_in r ≡ read_count (read_call f task tick cost)
  pub sheet : IfOk r (λ a. a.tasks ≡ read_sheet (read_call f task tick cost))
  pub task_column : task' ≡ read_column (λ q. q.task) (read_call f task tick cost) task
  pub tick_column : tick' ≡ read_column (λ q. q.tick) (read_call f task tick cost) tick
  pub cost_column : cost' ≡ read_column (λ q. q.cost) (read_call f task tick cost) cost
