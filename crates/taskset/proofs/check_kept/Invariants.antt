-- The loop has passed every task below i: each has K ≤ J.
use Rattle.model.specs.Choice.{column}
use Rattle.model.proofs.SearchLaws.{Sought}
use Rattle.model.proofs.CheckLaws.{over}
use Rattle.taskset.specs.TaskSet.{view_of}
use Rattle.taskset.proofs.check_kept.Given as goal

abbrev pub invariant-loop-i : goal.invariant-loop-i
invariant-loop-i l = Sought (over (view_of l.s) (column l.kept)) l.count l.i
