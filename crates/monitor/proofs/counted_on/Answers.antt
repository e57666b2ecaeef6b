-- Below 256 the count grows, from there it goes round.
use borrow.Author.Tests.{lt-ltb, le-ltb}
use Rattle.monitor.specs.Layout.{counted}
use Rattle.monitor.proofs.counted_on.Goals as goal

pub returns-then-count-jobs : goal.returns-then-count-jobs
unfolding counted
returns-then-count-jobs c = rw (counted, lt-ltb _ _ c.if-count-jobs.true)

pub returns : goal.returns
unfolding counted
returns c = rw (counted, le-ltb _ _ c.if-count-jobs.false)
