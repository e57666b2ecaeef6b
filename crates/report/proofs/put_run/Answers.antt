use Rattle.report.proofs.ReportLaws.{run_page}
use Rattle.report.proofs.put_run.Goals as goal

pub returns : goal.returns
returns c = run_page _ _ _ _ _ _ _ _ _ _ c.put_bytes-a.ensures c.put_jobs.ensures
