-- The loop has passed every task below i: nothing is wrong with any of them.
use Prim.Native.Nat.{◌≤◌}
use Rattle.model.proofs.SearchLaws.{Sought}
use Rattle.model.proofs.CheckLaws.{wrong}
use Rattle.taskset.specs.TaskSet.{view_of}
use Rattle.taskset.proofs.check.Given as goal

abbrev pub invariant-loop-i : goal.invariant-loop-i
invariant-loop-i l = (1 ≤ l.count) × (l.count ≤ 32) × Sought (wrong (view_of l.s)) l.count l.i
