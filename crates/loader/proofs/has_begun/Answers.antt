use Rattle.loader.specs.Loader.{begun}
use Rattle.loader.proofs.has_begun.Goals as goal

pub returns-then-m : goal.returns-then-m
unfolding begun
returns-then-m c = rw c.if-m.true

pub returns-else-m : goal.returns-else-m
unfolding begun
returns-else-m c = rw c.if-m.false
