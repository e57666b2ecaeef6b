-- No frame is never refused; a frame that is there is checked by its windows.
use mathlib.Core.Path.{◌∙◌}
use Rattle.frame.proofs.FrameCheckingLaws.{absent_passes, present_check}
use Rattle.frame.proofs.check.Goals as goal

pub returns-in-None : goal.returns-in-None
returns-in-None c = rw c.in-None.is absent_passes

pub returns-in-Some : goal.returns-in-Some
returns-in-Some c = rw c.in-Some.is (c.check_windows.ensures ∙ present_check _)
