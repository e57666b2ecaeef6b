-- The loop has counted the jobs at the places below k.
use Rattle.monitor.proofs.ColumnLaws.{Counting}
use Rattle.monitor.proofs.count_all.Given as goal

abbrev pub invariant-loop-k : goal.invariant-loop-k
invariant-loop-k l = Counting l.window l.n l.used l.k l.initial.jobs l.initial.late l.initial.largest l.jobs l.late l.largest
