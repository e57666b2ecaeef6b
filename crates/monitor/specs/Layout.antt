-- The slots of a lent window, and the jobs that they hold. Every number in every slot has a meaning, whoever put it there.
-- Slot 0: the number of tasks. Slot 1: the count of jobs. From 2 on: the deadlines of the tasks. From 34 on: the tasks of 256 jobs. From 290 on: their responses.
use Rattle.std.specs.Prelude.{ℕ, ◌+◌, ◌%◌, min, true, false, List, ◌∷◌, ◌++◌, get_or, take, drop, set, ltb}
use Rattle.model.specs.Series.{table}
use Rattle.model.specs.Tasks.{Tasks}
use Rattle.model.specs.LastJobs.{Completion, window_jobs}

-- the slots that a window needs
abbrev pub window_slots : ℕ
window_slots = 546

-- the number of tasks
abbrev pub tasks_in : List ℕ → ℕ
tasks_in w = get_or w 0 0

-- the count of jobs: up to 256 it counts, then it goes from 256 to 511 and on from 256, so that it tells the next place of the ring however long the run
abbrev pub count_in : List ℕ → ℕ
count_in w = get_or w 1 0

-- the deadline of a task
abbrev pub deadline_in : List ℕ → ℕ → ℕ
deadline_in w i = get_or w (2 + i) 0

-- the job at a place of the ring
abbrev pub job_in : List ℕ → ℕ → Completion
job_in w k = record { task = get_or w (34 + k) 0; response = get_or w (290 + k) 0 }

-- the place of the ring to which the next job goes: that of the oldest one once the ring is full
abbrev pub place_in : List ℕ → ℕ
place_in w = count_in w % window_jobs

-- how many places of the ring are in use: those from 0 on
abbrev pub used_in : List ℕ → ℕ
used_in w = min (count_in w) window_jobs

-- a list from a place on, then what stands before that place
unfoldable pub from : {A : Type 0} → ℕ → List A → List A
from p l = drop p l ++ take p l

-- the jobs that a window holds, the oldest first
unfoldable pub held_in : List ℕ → List Completion
held_in w = from (place_in w) (table (job_in w) (used_in w))

-- the count after one more job
unfoldable pub counted : ℕ → ℕ
counted c = elim (ltb c window_jobs) [ true ↦ c + 1 | false ↦ window_jobs + (c % window_jobs + 1) % window_jobs ]

-- the slots after one more job
unfoldable pub with_job : List ℕ → Completion → List ℕ
with_job w c = set (set (set w (34 + place_in w) c.task) (290 + place_in w) c.response) 1 (counted (count_in w))

-- the first slots of a window that was just opened on a sheet: no job, and the deadlines
abbrev pub opened_on : Tasks → List ℕ
opened_on s = s.count ∷ 0 ∷ table s.deadline s.count
