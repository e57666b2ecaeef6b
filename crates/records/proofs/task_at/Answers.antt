use Rattle.fileformat.proofs.OffsetLaws.{task_fields}
use Rattle.records.proofs.task_at.Goals as goal

pub returns : goal.returns
returns c =
    task_fields _ _ _ _ _ _ _ c.number_at-period.ensures c.number_at-jitter.ensures c.number_at-cost.ensures
    c.number_at-deadline.ensures
