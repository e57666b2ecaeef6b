use native.Mathlib.Omega.{arith}
use Rattle.model.proofs.CheckLaws.{faulty, faultless}
use Rattle.fileformat.proofs.StepLaws.{charge_again, charge_after_task, charge_after_release, charge_none, charge_fine}
use Rattle.entries.proofs.check_charge.Goals as goal

pub returns-then-held-gt0 : goal.returns-then-held-gt0
returns-then-held-gt0 c = faulty _ 3 _ (charge_again _ _ _ _ (omega arith))

pub returns-then-tasks-gt0 : goal.returns-then-tasks-gt0
returns-then-tasks-gt0 c = faulty _ 3 _ (charge_after_task _ _ _ _ (omega arith))

pub returns-then-releases-gt0 : goal.returns-then-releases-gt0
returns-then-releases-gt0 c = faulty _ 3 _ (charge_after_release _ _ _ _ (omega arith))

pub returns-then-charge-eq0 : goal.returns-then-charge-eq0
returns-then-charge-eq0 c = faulty _ 6 _ (charge_none _ _ _ _ (omega arith) (omega arith) (omega arith) (omega arith))

pub returns : goal.returns
returns c = faultless _ _ (charge_fine _ _ _ _ (omega arith) (omega arith) (omega arith) (omega arith))
