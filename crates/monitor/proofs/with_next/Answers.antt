-- A job of another task changes nothing.
use mathlib.Core.Path.{◌∙◌}
use Rattle.monitor.proofs.TallyLaws.{next_own, next_other}
use Rattle.monitor.proofs.with_next.Goals as goal

pub returns-then-of-task : goal.returns-then-of-task
returns-then-of-task c = c.with_one.ensures ∙ next_own _ _ _ _ c.if-of-task.true

pub returns : goal.returns
returns c = next_other _ _ _ _ c.if-of-task.false
