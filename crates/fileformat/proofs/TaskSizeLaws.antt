-- Laws of the bytes of tasks: 17 or 18 each.
use Prim.Native.Nat.{ℕ, zero, suc, ◌+◌, ◌*◌, ◌≤◌, ◌<◌}
use mathlib.Core.Path.{◌≡◌, refl, ap}
use mathlib.Core.Bool.{Bool, true, false}
use mathlib.Core.List.{List, ◌∷◌}
use native.Mathlib.Omega.{arith}
use lib.ListN.{length, get_or}
use Rattle.model.specs.Series.{sum}
use Rattle.model.specs.Tasks.{Tasks, Release}
use Rattle.model.specs.SameTasks.{SameTasks}
use Rattle.model.proofs.SeriesLaws.{sum_eq, sum_longer}
use Rattle.taskset.specs.declared.Task.{Task}
use Rattle.taskset.specs.TaskSet.{no_task}
use Rattle.fileformat.specs.Records.{task_size}
use Rattle.fileformat.specs.File.{sheet_with}
use Rattle.fileformat.specs.FileCalls.{charge_bytes, tasks_bytes, bytes_needed}

pub task_size_low : (low : Bool) → 17 ≤ task_size low
task_size_low true = omega arith
task_size_low false = omega arith

pub task_size_high : (low : Bool) → task_size low ≤ 18
task_size_high true = omega arith
task_size_high false = omega arith

module _ (s : Tasks) where
  -- of no task, and of one task more
  pub tasks_bytes_none : tasks_bytes s 0 ≡ 0
  unfolding tasks_bytes sum
  tasks_bytes_none = refl

  pub tasks_bytes_more : (n : ℕ) → tasks_bytes s (suc n) ≡ tasks_bytes s n + task_size (s.low n)
  unfolding tasks_bytes sum
  tasks_bytes_more n = refl

  pub tasks_bytes_low : (n : ℕ) → 17 * n ≤ tasks_bytes s n
  tasks_bytes_low zero = omega arith
  tasks_bytes_low (suc n) = omega (arith, tasks_bytes_more n, tasks_bytes_low n, task_size_low (s.low n))

  pub tasks_bytes_high : (n : ℕ) → tasks_bytes s n ≤ 18 * n
  tasks_bytes_high zero = omega (arith, tasks_bytes_none)
  tasks_bytes_high (suc n) = omega (arith, tasks_bytes_more n, tasks_bytes_high n, task_size_high (s.low n))

  -- of fewer tasks there are not more
  pub tasks_bytes_longer : (m n : ℕ) → m ≤ n → tasks_bytes s m ≤ tasks_bytes s n
  unfolding tasks_bytes
  tasks_bytes_longer m n h = sum_longer (λ i. task_size (s.low i)) m n h

  -- of high tasks 17 each
  pub tasks_bytes_marked : (n : ℕ) → ((i : ℕ) → i < n → s.low i ≡ false) → tasks_bytes s n ≡ 17 * n
  tasks_bytes_marked zero h = tasks_bytes_none
  tasks_bytes_marked (suc n) h =
      omega (arith, tasks_bytes_more n, tasks_bytes_marked n (λ i l. h i (omega arith)), ap task_size (h n (omega arith)))

-- sheets that agree have as many, of tasks below the count and with a list of releases
pub tasks_bytes_same : (s s' : Tasks) → SameTasks s s' → (n : ℕ) → n ≤ s.count → tasks_bytes s n ≡ tasks_bytes s' n
unfolding tasks_bytes
tasks_bytes_same s s' a n h = sum_eq (λ i. task_size (s.low i)) (λ i. task_size (s'.low i)) n (λ i l. ap task_size (a.low i (omega arith)))

pub bytes_needed_same : (s s' : Tasks) → SameTasks s s' → (l : List Release) → bytes_needed s l ≡ bytes_needed s' l
unfolding bytes_needed
bytes_needed_same s s' a l =
    omega (arith, ap charge_bytes a.charge, tasks_bytes_same s s' a s.count (omega arith), ap (tasks_bytes s') a.count)

-- of a sum, the first member and the others
sum_first : (f : ℕ → ℕ) (n : ℕ) → sum f (suc n) ≡ f 0 + sum (λ i. f (suc i)) n
unfolding sum
sum_first f zero = omega arith
sum_first f (suc n) = omega (arith, sum_first f n)

-- of the tasks of a list, the first one and the others
pub tasks_bytes_first : (c : ℕ) (t : Task) (l : List Task) → tasks_bytes (sheet_with c (t ∷ l)) (suc (length l)) ≡ task_size t.low + tasks_bytes (sheet_with c l) (length l)
unfolding tasks_bytes
tasks_bytes_first c t l = sum_first (λ i. task_size (get_or (t ∷ l) i no_task).low) (length l)
