use mathlib.Core.Path.{◌≡◌}
use native.Mathlib.Omega.{arith}
use Rattle.report.specs.Report.{choice_line}
use Rattle.report.proofs.ReportLaws.{lines_none, lines_next, lines_all}
use Rattle.report.proofs.put_tasks.Goals as goal

pub loop-i-init : goal.loop-i-init
loop-i-init c = lines_none _ _ _ _

pub put_task-at-requires : goal.put_task-at-requires
put_task-at-requires c = omega (arith, c.loop-i.invariant)

pub loop-i-preserved : goal.loop-i-preserved
unfolding choice_line
loop-i-preserved c = lines_next _ _ _ _ _ _ _ _ _ c.loop-i.invariant c.put_task-at.ensures

pub shape_of-out : goal.shape_of-out
shape_of-out c = c.loop-i.invariant.long

pub returns : goal.returns
returns c =
    let e : c.loop-i.i ≡ c.args.s.count = omega arith in
    lines_all _ _ _ _ _ _ _ _ (rw e at c.loop-i.invariant) (omega arith)
