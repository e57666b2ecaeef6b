-- The loop has passed every release below i.
use Rattle.taskset.specs.TaskSet.{view_of}
use Rattle.releases.proofs.ReleaseLaws.{Checking}
use Rattle.releases.proofs.check_releases.Given as goal

abbrev pub invariant-loop-i : goal.invariant-loop-i
invariant-loop-i l = Checking (view_of l.s) l.since l.list.count l.list.task.now l.list.tick.now l.list.cost.now l.before l.i
