-- The calls "read" and "write": what each answers, as one equation with the definitions.
use Rattle.std.specs.Prelude.{ℕ, ◌+◌, ◌-◌, true, false, List, [], ◌∷◌, ◌++◌, map, eqb, length, take, replicate}
use Rattle.std.proofs.Math.Option.{some, none}
use Rattle.model.specs.Series.{sum}
use Rattle.model.specs.Limits.{max_tasks}
use Rattle.model.specs.Tasks.{Tasks, Release}
use Rattle.model.specs.Refusal.{Answer, refused, answered}
use Rattle.model.specs.Checks.{Inputs, check_slots}
use Rattle.model.specs.Calls.{lends, releases_of, column_after}
use Rattle.taskset.specs.declared.Task.{Task}
use Rattle.taskset.specs.declared.TaskSet.{TaskSet}
use Rattle.taskset.specs.TaskSet.{no_task}
use Rattle.fileformat.specs.Records.{task_size, release_size, width_for}
use Rattle.fileformat.specs.File.{File, decode}

-- the tasks of a task set; entries past the count are not looked at
unfoldable pub tasks_in : TaskSet → List Task
tasks_in s = take s.count s.tasks

-- the task set of a charge and some tasks: entries past the count are 0
unfoldable pub set_with : ℕ → List Task → TaskSet
set_with c l = record { tasks = l ++ replicate (max_tasks - length l) no_task; count = length l; charge = c }

-- without a charge
abbrev pub set_of : List Task → TaskSet
set_of = set_with 0

-- read: the first refusal of the file, then 13 for the columns task, tick and cost, else what the file holds
unfoldable pub read_call : List ℕ → List ℕ → List ℕ → List ℕ → Answer File
read_call f task tick cost =
    elim (decode f) [
      | refused q ↦ refused q
      | answered x ↦
          elim (check_slots (lends (length x.releases) task ∷ lends (length x.releases) tick ∷ lends (length x.releases) cost ∷ [])) [
            | none ↦ answered x
            | some q ↦ refused q
          ]
    ]

-- its answer as a value: the number of releases
unfoldable pub read_count : Answer File → Answer ℕ
read_count (refused q) = refused q
read_count (answered x) = answered (length x.releases)

-- the sheet that is returned; no task and no charge after a refusal
unfoldable pub read_sheet : Answer File → TaskSet
read_sheet (refused q) = set_of []
read_sheet (answered x) = set_with x.charge x.tasks

-- what stands in a column afterwards
unfoldable pub read_column : (Release → ℕ) → Answer File → List ℕ → List ℕ
read_column g (refused q) held = column_after (some q) [] held
read_column g (answered x) held = column_after none (map g x.releases) held

-- the bytes of some releases: 10 for each with a tick up to 1,000,000,000, 14 for each above
unfoldable pub list_bytes : List Release → ℕ
list_bytes [] = 0
list_bytes (r ∷ l) = release_size (width_for r.tick) + list_bytes l

-- the bytes of a charge: 2 where it is written
unfoldable pub charge_bytes : ℕ → ℕ
charge_bytes c = elim (eqb c 0) [ true ↦ 0 | false ↦ 2 ]

-- the bytes of the first n tasks of a sheet: 17 for each high one, 18 for each low one
unfoldable pub tasks_bytes : Tasks → ℕ → ℕ
tasks_bytes s n = sum (λ i. task_size (s.low i)) n

-- those of the whole sheet, its charge and its tasks
abbrev pub sheet_bytes : Tasks → ℕ
sheet_bytes s = charge_bytes s.charge + tasks_bytes s s.count

-- write: a sheet, a list of n releases in three columns, and room for bytes, of which those of the sheet, those of the releases and 1 are needed
unfoldable pub bytes_needed : Tasks → List Release → ℕ
bytes_needed s l = sheet_bytes s + list_bytes l + 1

abbrev pub write_inputs : Tasks → ℕ → List ℕ → List ℕ → List ℕ → ℕ → Inputs
write_inputs s n task tick cost room = record {
  tasks = s;
  single = none;
  count = some n;
  lent = lends n task ∷ lends n tick ∷ lends n cost ∷ record { needed = bytes_needed s (releases_of n task tick cost); slots = room } ∷ [];
  kept = none;
  releases = releases_of n task tick cost;
  unfit = none;
}

-- the file that is written
abbrev pub file_of : TaskSet → ℕ → List ℕ → List ℕ → List ℕ → File
file_of s n task tick cost = record { charge = s.charge; tasks = tasks_in s; releases = releases_of n task tick cost }
