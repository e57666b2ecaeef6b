-- The loop has copied the entries below i.
use Prim.Native.Nat.{◌≤◌}
use Rattle.taskset.specs.TaskSet.{entry_of}
use Rattle.taskset.proofs.FilledLaws.{Filled}
use Rattle.rows.proofs.cleaned.Given as goal

abbrev pub invariant-loop-i : goal.invariant-loop-i
invariant-loop-i l = (l.s.count ≤ 32) × (l.i ≤ l.s.count) × Filled (entry_of l.s) l.tasks l.i
