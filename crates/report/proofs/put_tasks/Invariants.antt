-- The loop has written the lines of the first i tasks.
use Rattle.taskset.specs.TaskSet.{view_of}
use Rattle.report.specs.Report.{choice_line}
use Rattle.report.proofs.ReportLaws.{PutLines}
use Rattle.report.proofs.put_tasks.Given as goal

abbrev pub invariant-loop-i : goal.invariant-loop-i
invariant-loop-i l = PutLines (choice_line (view_of l.s) l.kept l.worst) 77 l.i l.initial.out l.from l.out l.at
