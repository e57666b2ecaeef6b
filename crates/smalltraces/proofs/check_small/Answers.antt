-- Check by check: the first that refuses decides.
use Rattle.refusal.proofs.PassedOn.{passed_on}
use Rattle.enumeration.proofs.FaultLaws.{fault_sheet, fault_tasks, fault_releases, fault_ticks, fault_none}
use Rattle.smalltraces.proofs.check_small.Goals as goal

pub returns-in_err-check : goal.returns-in_err-check
returns-in_err-check c = passed_on _ _ c.from_residual.ensures.1 (fault_sheet _ _ _ _ c.in_err-check.ensures)

pub returns-then-count-gt3 : goal.returns-then-count-gt3
returns-then-count-gt3 c = fault_tasks _ _ _ c.in_ok-check.ensures c.if-count-gt3.true

pub returns-then-releases-gt6 : goal.returns-then-releases-gt6
returns-then-releases-gt6 c = fault_releases _ _ _ c.in_ok-check.ensures c.if-count-gt3.false c.if-releases-gt6.true

pub returns-then-ticks-gt12 : goal.returns-then-ticks-gt12
returns-then-ticks-gt12 c =
    fault_ticks _ _ _ c.in_ok-check.ensures
    c.if-count-gt3.false c.if-releases-gt6.false c.if-ticks-gt12.true

pub returns : goal.returns
returns c =
    fault_none _ _ _ c.in_ok-check.ensures
    c.if-count-gt3.false c.if-releases-gt6.false c.if-ticks-gt12.false
