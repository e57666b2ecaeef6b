-- The loop has written the lines of the first p releases.
use Rattle.report.specs.Report.{run_line}
use Rattle.report.proofs.ReportLaws.{PutLines}
use Rattle.report.proofs.put_jobs.Given as goal

abbrev pub invariant-loop-p : goal.invariant-loop-p
invariant-loop-p l = PutLines (run_line l.task l.tick l.ready l.finish) 106 l.p l.initial.out l.from l.out l.at
