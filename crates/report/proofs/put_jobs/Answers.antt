use mathlib.Core.Path.{◌≡◌}
use native.Mathlib.Omega.{arith}
use Rattle.report.specs.Report.{run_line}
use Rattle.report.proofs.ReportLaws.{lines_none, lines_next, lines_all}
use Rattle.report.proofs.put_jobs.Goals as goal

pub loop-p-init : goal.loop-p-init
loop-p-init c = lines_none _ _ _ _

pub put_job-at-requires : goal.put_job-at-requires
put_job-at-requires c = omega (arith, c.loop-p.invariant)

pub loop-p-preserved : goal.loop-p-preserved
unfolding run_line
loop-p-preserved c = lines_next _ _ _ _ _ _ _ _ _ c.loop-p.invariant (rw c.saturating_sub.ensures at c.put_job-at.ensures)

pub shape_of-out : goal.shape_of-out
shape_of-out c = c.loop-p.invariant.long

pub returns : goal.returns
returns c =
    let e : c.loop-p.p ≡ c.args.n = omega arith in
    lines_all _ _ _ _ _ _ _ _ (rw e at c.loop-p.invariant) (omega arith)
