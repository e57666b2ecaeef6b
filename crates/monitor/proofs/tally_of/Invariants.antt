-- The loop has counted the jobs at the places below k.
use Rattle.monitor.specs.Layout.{deadline_in}
use Rattle.monitor.specs.MonitorCalls.{tallied}
use Rattle.monitor.proofs.TallyLaws.{Tallying}
use Rattle.monitor.proofs.tally_of.Given as goal

abbrev pub invariant-loop-k : goal.invariant-loop-k
invariant-loop-k l = Tallying l.window l.task (deadline_in l.window l.task) l.used l.k (tallied l.t)
