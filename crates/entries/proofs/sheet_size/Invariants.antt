use Prim.Native.Nat.{ℕ, ◌+◌, ◌≤◌}
use mathlib.Core.Path.{◌≡◌}
use Rattle.taskset.specs.declared.TaskSet.{TaskSet}
use Rattle.taskset.specs.TaskSet.{view_of}
use Rattle.fileformat.specs.FileCalls.{charge_bytes, tasks_bytes}
use Rattle.entries.proofs.sheet_size.Given as goal

-- the bytes of the charge and of the first i tasks
pub record Counted (s : TaskSet) (size i : ℕ) : Type 0 where
  pub whole : size ≡ charge_bytes s.charge + tasks_bytes (view_of s) i
  pub within : i ≤ s.count

abbrev pub invariant-loop-i : goal.invariant-loop-i
invariant-loop-i l = Counted l.s l.size l.i
