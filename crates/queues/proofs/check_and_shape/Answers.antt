-- The sheet with its frame comes first; where it passes, the checks that follow and the ready ticks do not look at the frame.
use Rattle.refusal.proofs.PassedOn.{passed_on}
use Prim.Native.Nat.{min}
use mathlib.Core.Path.{refl, sym, ap, ◌∙◌}
use lib.ListN.{length}
use Rattle.model.specs.Choice.{column}
use Rattle.taskset.specs.TaskSet.{view_of}
use Rattle.refusal.specs.Refusal.{refusal_in}
use Rattle.frame.specs.FrameView.{frame_of}
use Rattle.model.specs.Calls.{releases_of, column_after}
use Rattle.model.proofs.OrderLaws.{column_kept}
use Rattle.queues.proofs.FramedLaws.{first_refuses, first_passes, ready_alike}
use Rattle.queues.proofs.check_and_shape.Goals as goal

pub returns-in_err-check_framed : goal.returns-in_err-check_framed
returns-in_err-check_framed c =
    let a = c.args in
    let e = c.from_residual.ensures.1 in
    (record {
      refusal = passed_on _ _ e (first_refuses (view_of a.s) a.kept.now a.list.now.count a.list.now.task.now a.list.now.tick.now a.list.now.cost.now (min (length a.ready.now) a.slots) (frame_of a.f) _ c.in_err-check_framed.ensures);
      ticks = column_kept _ _ _ _ (sym (passed_on _ _ e refl));
    })

pub returns : goal.returns
returns c =
    let a = c.args in
    let e = c.in_ok-check_framed.ensures in (record {
      refusal = c.check_and_shape.ensures.refusal
          ∙ first_passes (view_of a.s) a.kept.now a.list.now.count a.list.now.task.now a.list.now.tick.now a.list.now.cost.now (min (length a.ready.now) a.slots) (frame_of a.f) e;
      ticks = c.check_and_shape.ensures.ticks
          ∙ ap (λ y. column_after (refusal_in c.check_and_shape.result) y a.ready.now)
          (ready_alike (frame_of a.f) (view_of a.s) (column a.kept.now) (releases_of a.list.now.count a.list.now.task.now a.list.now.tick.now a.list.now.cost.now));
    })
