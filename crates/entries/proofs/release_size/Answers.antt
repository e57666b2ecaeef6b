use mathlib.Core.Path.{sym, ap}
use Rattle.fileformat.specs.Records.{width_in, release_size}
use Rattle.entries.proofs.release_size.Goals as goal

pub returns-then-long : goal.returns-then-long
returns-then-long c = ap (λ b. release_size (width_in b)) (sym c.if-long.true)

pub returns-else-long : goal.returns-else-long
returns-else-long c = ap (λ b. release_size (width_in b)) (sym c.if-long.false)
