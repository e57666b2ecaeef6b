use Rattle.report.proofs.ReportLaws.{task_line}
use Rattle.report.proofs.put_task.Goals as goal

pub returns : goal.returns
returns c =
    task_line _ _ _ _ _ _ _ _ _ _ _ _ _ _ _ _ _ _ _ _ _ _ _
    c.put_field-a.ensures
    c.put_field-b.ensures
    c.put_field-c.ensures
    c.put_field-d.ensures
    c.put_field-e.ensures
    c.put_field-f.ensures c.put_field.ensures
