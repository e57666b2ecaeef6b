-- The loop has passed every place from the first on that holds another task.
use lib.ListN.{get_or}
use lib.Dec.{eqb}
use Rattle.queues.proofs.SearchedLaws.{Passed}
use Rattle.queues.proofs.next_of.Given as goal

abbrev pub invariant-loop-p : goal.invariant-loop-p
invariant-loop-p l = Passed (λ x. eqb (get_or l.task x 0) l.i) l.n l.from l.p
