use Rattle.loader.specs.Loader.{after_zero}
use Rattle.loader.proofs.after_zero.Goals as goal

pub returns-then-m : goal.returns-then-m
unfolding after_zero
returns-then-m c = rw c.if-m.true

pub returns-else-m : goal.returns-else-m
unfolding after_zero
returns-else-m c = rw c.if-m.false
