-- The loop has passed every task whose oldest unfinished job may not run yet.
use lib.ListN.{get_or}
use lib.Dec.{leb}
use Rattle.queues.specs.Queues.{wake_of}
use Rattle.queues.proofs.SearchedLaws.{Passed}
use Rattle.queues.proofs.top_ready.Given as goal

abbrev pub invariant-loop-i : goal.invariant-loop-i
invariant-loop-i l = Passed (λ x. leb (wake_of l.ready l.n (get_or l.head x 0)) l.t) l.tasks 0 l.i
