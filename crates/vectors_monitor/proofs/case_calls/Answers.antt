-- One part, then the other.
use Rattle.vectors_monitor.proofs.CallLaws.{slots_then}
use Rattle.vectors_monitor.proofs.case_calls.Goals as goal

pub returns : goal.returns
returns c =
    slots_then _ _ _ _ _ c.part_calls.ensures
    c.part_calls-2.ensures
