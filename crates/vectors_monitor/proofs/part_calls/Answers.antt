-- An opening or none, then the jobs.
use Rattle.vectors_monitor.proofs.CallLaws.{slots_then}
use Rattle.vectors_monitor.proofs.part_calls.Goals as goal

pub returns : goal.returns
returns c = slots_then _ _ _ _ _ c.open_call.ensures c.take_calls.ensures
