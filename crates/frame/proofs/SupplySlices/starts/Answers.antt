-- One start without a frame, and one for each window with a frame.
use Rattle.frame.proofs.ColumnLaws.{starts_absent, starts_present}
use Rattle.frame.proofs.SupplySlices.starts.Goals as goal

pub returns-then-not-self : goal.returns-then-not-self
returns-then-not-self c ticks first size = starts_absent c.args.self.now.framed ticks c.args.self.now.count first size c.if-not-self.true-raw

pub returns : goal.returns
returns c ticks first size = starts_present c.args.self.now.framed ticks c.args.self.now.count first size c.if-not-self.false-raw
