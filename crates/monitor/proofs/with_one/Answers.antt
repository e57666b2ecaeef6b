-- Each field by its own function.
use mathlib.Core.Path.{refl}
use Rattle.monitor.proofs.with_one.Goals as goal

pub returns : goal.returns
returns c = rw (c.late_with.ensures, c.max.ensures) refl
