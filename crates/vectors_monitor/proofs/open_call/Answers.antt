-- The opening by its contract, or none.
use Rattle.vectors_monitor.proofs.CallLaws.{opened_yes, opened_no}
use Rattle.vectors_monitor.proofs.open_call.Goals as goal

pub returns-then-opened : goal.returns-then-opened
returns-then-opened c = opened_yes _ _ _ _ c.if-opened.true c.open_window.ensures.slots

pub returns-else-opened : goal.returns-else-opened
returns-else-opened c = opened_no _ _ _ c.if-opened.false
