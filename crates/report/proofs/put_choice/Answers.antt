use Rattle.report.proofs.ReportLaws.{choice_page}
use Rattle.report.proofs.put_choice.Goals as goal

pub returns : goal.returns
returns c =
    choice_page _ _ _ _ _ _ _ _ _ _ _ c.put_bytes-a.ensures
    c.put_tasks-b.ensures c.put_last.ensures
