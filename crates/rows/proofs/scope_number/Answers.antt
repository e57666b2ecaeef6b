-- A number for each of the two.
use Rattle.rows.specs.Rows.{scope_number}
use Rattle.rows.proofs.scope_number.Goals as goal

pub returns-then-partial : goal.returns-then-partial
unfolding scope_number
returns-then-partial c = rw c.if-partial.true

pub returns-else-partial : goal.returns-else-partial
unfolding scope_number
returns-else-partial c = rw c.if-partial.false
