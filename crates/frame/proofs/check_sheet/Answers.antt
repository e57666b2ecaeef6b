-- The sheet's own refusal first; where it has none, that of the frame.
use Rattle.refusal.proofs.PassedOn.{passed_on}
use mathlib.Core.Path.{◌∙◌}
use Rattle.model.proofs.FramedLaws.{bare_refuses, frame_follows}
use Rattle.taskset.specs.TaskSet.{view_of}
use Rattle.frame.specs.FrameView.{frame_of}
use Rattle.frame.proofs.check_sheet.Goals as goal

pub returns-in_err-check : goal.returns-in_err-check
returns-in_err-check c =
    let a = c.args in
    passed_on _ _ c.from_residual.ensures.1 (bare_refuses (frame_of a.f) (view_of a.s) _ (c.in_err-check.ensures))

pub returns : goal.returns
returns c =
    let a = c.args in
    c.check-2.ensures
    ∙ frame_follows (frame_of a.f) (view_of a.s) (c.in_ok-check.ensures)
