-- The loop has passed the tasks below i.
use Rattle.model.proofs.SearchLaws.{Sought}
use Rattle.taskset.specs.TaskSet.{view_of}
use Rattle.admission.specs.Boards.{differs}
use Rattle.comparison.proofs.first_difference.Given as goal

abbrev pub invariant-loop-i : goal.invariant-loop-i
invariant-loop-i l = Sought (differs (view_of l.a) (view_of l.b)) l.n l.i
