-- Where there is a frame, the check of the sheet with it.
use mathlib.Core.Path.{◌≡◌, refl, ◌∙◌}
use Rattle.std.specs.Prelude as std
use Rattle.model.specs.Checks.{check_tasks}
use Rattle.taskset.specs.TaskSet.{view_of}
use Rattle.taskset.specs.declared.TaskSet.{TaskSet}
use Rattle.frame.specs.declared.Frame.{Frame}
use Rattle.frame.specs.FrameView.{frame_of, framed_of}
use Rattle.queues.specs.Framed.{framed_first}
use Rattle.queues.proofs.check_framed.Goals as goal

present : (s : TaskSet) (f : std.Option Frame) (x : Frame) → f ≡ std.Some x → check_tasks (framed_of s f) ≡ framed_first (frame_of f) (view_of s)
present s f x e = rw e refl

pub returns-in-None : goal.returns-in-None
returns-in-None c = rw c.in-None.is refl

pub returns-in-Some : goal.returns-in-Some
returns-in-Some c = c.check_sheet.ensures ∙ present c.args.s c.args.f _ c.in-Some.is
