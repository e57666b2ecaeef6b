-- The loop has brought the jobs before i.
use Rattle.vectors_monitor.proofs.CallLaws.{Brought}
use Rattle.vectors_monitor.proofs.take_calls.Given as goal

abbrev pub invariant-loop-i : goal.invariant-loop-i
invariant-loop-i l = Brought l.initial.window l.task l.response l.window l.i
