-- The loop has written the deadlines of the tasks below i.
use Rattle.taskset.specs.TaskSet.{view_of}
use Rattle.monitor.proofs.OpenLaws.{Opening}
use Rattle.monitor.proofs.put_deadlines.Given as goal

abbrev pub invariant-loop-i : goal.invariant-loop-i
invariant-loop-i l = Opening l.count (view_of l.s).deadline l.initial.window l.window l.i
