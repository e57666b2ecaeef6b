-- The loop has passed every task whose start tick is after t.
use lib.ListN.{get_or}
use lib.Dec.{leb}
use Rattle.queues.proofs.SearchedLaws.{Passed}
use Rattle.jumps.proofs.top_started.Given as goal

abbrev pub invariant-loop-i : goal.invariant-loop-i
invariant-loop-i l = Passed (λ x. leb (get_or l.since x 0) l.t) l.tasks 0 l.i
