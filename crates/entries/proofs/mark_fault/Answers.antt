use mathlib.Core.Path.{sym}
use native.Mathlib.Omega.{arith}
use Rattle.fileformat.proofs.StepLaws.{mark_after, mark_over, mark_alone}
use Rattle.entries.proofs.mark_fault.Goals as goal

pub returns-then-releases-gt0 : goal.returns-then-releases-gt0
returns-then-releases-gt0 c = sym (mark_after _ _ (omega arith))

pub returns-then-tasks-lt32 : goal.returns-then-tasks-lt32
returns-then-tasks-lt32 c = sym (mark_alone _ _ (omega arith) (omega arith))

pub returns-else-tasks-lt32 : goal.returns-else-tasks-lt32
returns-else-tasks-lt32 c = sym (mark_over _ _ (omega arith) (omega arith))
