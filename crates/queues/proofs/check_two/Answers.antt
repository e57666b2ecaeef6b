-- The sheet with its frame comes first; where it passes, the checks that follow do not look at the frame.
use Rattle.refusal.proofs.PassedOn.{passed_on}
use Prim.Native.Nat.{min}
use mathlib.Core.Path.{◌∙◌}
use Rattle.taskset.specs.TaskSet.{view_of}
use Rattle.frame.specs.FrameView.{frame_of}
use Rattle.queues.proofs.FramedLaws.{first_refuses, first_passes}
use Rattle.queues.proofs.check_two.Goals as goal

pub returns-in_err-check_framed : goal.returns-in_err-check_framed
returns-in_err-check_framed c =
    let a = c.args in
    let e = c.in_err-check_framed.ensures in
    passed_on _ _ c.from_residual.ensures.1 (first_refuses (view_of a.s) a.kept.now a.list.now.count a.list.now.task.now a.list.now.tick.now a.list.now.cost.now (min a.first a.second) (frame_of a.f) _ e)

pub returns : goal.returns
returns c =
    let a = c.args in
    let e = c.in_ok-check_framed.ensures in
    c.check_two.ensures
    ∙ first_passes (view_of a.s) a.kept.now a.list.now.count a.list.now.task.now a.list.now.tick.now a.list.now.cost.now (min a.first a.second) (frame_of a.f) e
