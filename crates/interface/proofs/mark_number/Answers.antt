-- Both marks.
use Rattle.interface.specs.TaskNumbers.{mark_number}
use Rattle.interface.proofs.mark_number.Goals as goal

pub returns-then-low : goal.returns-then-low
unfolding mark_number
returns-then-low c = rw c.if-low.true

pub returns-else-low : goal.returns-else-low
unfolding mark_number
returns-else-low c = rw c.if-low.false
