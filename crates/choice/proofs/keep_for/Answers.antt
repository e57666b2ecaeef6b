-- A task that is spared has 0; else the least kept jitter is what `least_keep` says.
use Rattle.choice.proofs.NextChoiceLaws.{spared_is, unspared_is}
use Rattle.choice.proofs.keep_for.Goals as goal

pub returns-then-spared : goal.returns-then-spared
returns-then-spared c = spared_is _ _ _ _ _ _ _ _ c.if-spared.true

pub returns : goal.returns
returns c = unspared_is _ _ _ _ _ _ _ _ _ c.if-spared.false c.least_keep.ensures
