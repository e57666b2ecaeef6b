-- The loop has met no low task so far: see `LookedAt`.
use Rattle.taskset.specs.TaskSet.{view_of}
use Rattle.choice.proofs.DecideLaws.{LookedAt}
use Rattle.choice.proofs.any_low.Given as goal

abbrev pub invariant-loop-i : goal.invariant-loop-i
invariant-loop-i l = LookedAt (view_of l.s).low l.n l.i
