use Rattle.report.proofs.ReportLaws.{narrow_refusal_line}
use Rattle.report.proofs.put_refused.Goals as goal

pub returns : goal.returns
returns c = narrow_refusal_line _ _ _ _ _ _ _ _ _ _ _ c.put_bytes-a.ensures c.put_field-b.ensures c.put_bytes-c.ensures c.put_wide_field.ensures
