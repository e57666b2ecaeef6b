-- The job by its contract.
use Rattle.vectors_monitor.proofs.CallLaws.{job_of}
use Rattle.vectors_monitor.proofs.take_call.Goals as goal

pub returns : goal.returns
returns c = job_of _ _ _ _ _ c.take_job-answer.ensures.slots c.index-of.ensures
