use mathlib.Core.Path.{refl}
use native.Mathlib.Omega.{arith}
use Rattle.model.proofs.SearchLaws.{sought_none, sought_next, sought_here, sought_all}
use Rattle.model.proofs.CheckLaws.{is_fault_lem, no_fault, fault_of_lem, faultless_of, refuses_none, refuses_many, refuses_entry, passes}
use Rattle.refusal.proofs.PassedOn.{passed_on}
use Rattle.taskset.proofs.check.Goals as goal

pub returns-then-count-eq0 : goal.returns-then-count-eq0
returns-then-count-eq0 c = refuses_none _ (omega arith)

pub returns-then-count-gt32 : goal.returns-then-count-gt32
returns-then-count-gt32 c = refuses_many _ (omega arith)

pub loop-i-init : goal.loop-i-init
loop-i-init c = (omega arith, omega arith, sought_none _ _)

pub returns-in_err-check_entry : goal.returns-in_err-check_entry
returns-in_err-check_entry c =
    let told = c.in_err-check_entry.ensures in
    passed_on _ _ c.from_residual.ensures.1
    (refuses_entry _ _ _ (omega arith) (omega arith)
    (sought_here _ _ _ c.loop-i.invariant.2 c.loop-i-test.true (is_fault_lem _ _ (fault_of_lem _ _ _ told).0)) told)

pub loop-i-preserved : goal.loop-i-preserved
loop-i-preserved c = (
  omega arith,
  omega arith,
  sought_next _ _ _ c.loop-i.invariant.2 c.loop-i-test.true
      (no_fault _ (faultless_of _ _ (c.in_ok-check_entry.ensures))),
)

pub returns : goal.returns
returns c = passes _ refl (omega arith) (omega arith) (sought_all _ _ _ c.loop-i.invariant.2 c.loop-i-test.false)
