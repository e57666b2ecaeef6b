use mathlib.Core.Path.{sym, ap}
use Rattle.fileformat.specs.Records.{task_size}
use Rattle.entries.proofs.task_size.Goals as goal

pub returns-then-low : goal.returns-then-low
returns-then-low c = ap task_size (sym c.if-low.true)

pub returns-else-low : goal.returns-else-low
returns-else-low c = ap task_size (sym c.if-low.false)
