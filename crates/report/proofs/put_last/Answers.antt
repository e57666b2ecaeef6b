use Rattle.report.proofs.ReportLaws.{high_last, plain_last}
use Rattle.report.proofs.put_last.Goals as goal

pub returns-then-high_only : goal.returns-then-high_only
returns-then-high_only c = high_last _ _ _ _ _ c.if-high_only.true c.put_bytes.ensures

pub returns : goal.returns
returns c = plain_last _ _ _ _ _ c.if-high_only.false c.put_bytes-2.ensures
