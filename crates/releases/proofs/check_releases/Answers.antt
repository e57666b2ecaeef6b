use Rattle.refusal.proofs.PassedOn.{passed_on}
use native.Mathlib.Omega.{arith}
use mathlib.Core.Path.{refl}
use Rattle.model.proofs.TraceLaws.{fault_task}
use Rattle.model.proofs.CheckLaws.{faulty}
use Rattle.releases.proofs.ReleaseLaws.{checking_none, checking_fault, checking_next, checking_all}
use Rattle.releases.proofs.check_releases.Goals as goal

pub loop-i-init : goal.loop-i-init
loop-i-init c = checking_none _ _ _ _ _ _

pub overflow_cast-at : goal.overflow_cast-at
overflow_cast-at c = omega (arith, c.type_inv.task c.loop-i.i)

pub returns-then-tasks-at : goal.returns-then-tasks-at
returns-then-tasks-at c =
    checking_fault _ _ _ _ _ _ _ _ _ c.loop-i.invariant c.loop-i-test.true
    (faulty _ 7 _ (fault_task _ _ _ _ (omega arith)))

pub returns-in_err-check_release : goal.returns-in_err-check_release
returns-in_err-check_release c =
    passed_on _ _ c.from_residual.ensures.1 (checking_fault _ _ _ _ _ _ _ _ _ c.loop-i.invariant
    c.loop-i-test.true
    (c.in_err-check_release.ensures _ _ (omega arith) refl))

pub loop-i-preserved : goal.loop-i-preserved
loop-i-preserved c =
    checking_next _ _ _ _ _ _ _ _ c.loop-i.invariant
    c.loop-i-test.true
    (c.in_ok-check_release.ensures _ _ (omega arith) refl)

pub returns : goal.returns
returns c = checking_all _ _ _ _ _ _ _ _ c.loop-i.invariant c.loop-i-test.false
