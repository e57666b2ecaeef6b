-- The loop has passed every place from the first on that holds another task or a job that may run.
use Rattle.queues.proofs.SearchedLaws.{Passed}
use Rattle.jumps.specs.Jumps.{comes}
use Rattle.jumps.proofs.coming_of.Given as goal

abbrev pub invariant-loop-p : goal.invariant-loop-p
invariant-loop-p l = Passed (comes l.task l.ready l.n l.i l.t) l.n l.from l.p
