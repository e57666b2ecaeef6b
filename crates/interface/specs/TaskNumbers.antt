-- A sheet written as numbers: those of each task, one after the other.
use Rattle.std.specs.Prelude.{ℕ, Bool, true, false, List, [], ◌∷◌, ◌++◌}
use Rattle.taskset.specs.declared.Task.{Task}

-- a mark as a number: 0 for high, 1 for low
unfoldable pub mark_number : Bool → ℕ
mark_number true = 1
mark_number false = 0

-- the numbers of a task
abbrev pub task_numbers : Task → List ℕ
task_numbers t = t.period ∷ t.jitter ∷ t.cost ∷ t.deadline ∷ mark_number t.low ∷ []

-- the numbers of some tasks
unfoldable pub numbers_of : List Task → List ℕ
numbers_of [] = []
numbers_of (t ∷ l) = task_numbers t ++ numbers_of l
