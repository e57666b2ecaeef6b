use Rattle.report.proofs.ReportLaws.{job_line_lem}
use Rattle.report.proofs.put_job.Goals as goal

pub returns : goal.returns
returns c =
    job_line_lem _ _ _ _ _ _ _ _ _ _ _ _ _ _ _ _ _ _ _ _
    c.put_field-a.ensures
    c.put_field-b.ensures
    c.put_wide_field-c.ensures
    c.put_wide_field-d.ensures
    c.put_wide_field-e.ensures c.put_wide_field.ensures
