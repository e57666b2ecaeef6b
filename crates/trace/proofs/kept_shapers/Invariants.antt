-- The loop has made the shapers of every task before i.
use Prim.Native.Nat.{◌≤◌}
use mathlib.Core.List.{[]}
use Rattle.model.specs.Choice.{column}
use Rattle.taskset.specs.TaskSet.{view_of}
use Rattle.trace.specs.Standing.{Standing}
use Rattle.trace.proofs.kept_shapers.Given as goal

abbrev pub invariant-loop-i : goal.invariant-loop-i
invariant-loop-i l = (l.i ≤ l.count) × Standing (view_of l.s).period (column l.kept) (λ j. []) l.i l.all.of
