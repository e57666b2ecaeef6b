use mathlib.Core.Path.{sym, ap, ◌∙◌}
use native.Mathlib.Omega.{arith}
use Rattle.model.specs.Checks.{fault_at}
use Rattle.model.proofs.CheckLaws.{faulty}
use Rattle.fileformat.proofs.StepLaws.{task_after, task_over, task_numbers_lem}
use Rattle.entries.proofs.check_task.Goals as goal

pub returns-then-releases-gt0 : goal.returns-then-releases-gt0
returns-then-releases-gt0 c = faulty _ 3 _ (task_after _ _ _ _ (omega arith))

pub returns-then-tasks-ge32 : goal.returns-then-tasks-ge32
returns-then-tasks-ge32 c = faulty _ 4 _ (task_over _ _ _ _ (omega arith) (omega arith))

pub returns : goal.returns
returns c = c.check_entry.ensures ∙ ap (fault_at _) (sym (task_numbers_lem _ _ _ _ (omega arith) (omega arith)))
