-- Each test that fails is the fault of its number, the tests before it having passed.
use native.Mathlib.Omega.{arith}
use Rattle.model.proofs.TraceLaws.{fault_early, fault_late, fault_idle, fault_cost, fault_none}
use Rattle.model.proofs.CheckLaws.{faulty, faultless}
use Rattle.releases.proofs.check_release.Goals as goal

pub returns-then-tick-low : goal.returns-then-tick-low
returns-then-tick-low c = λ s task h e. faulty _ 8 _ (fault_early _ _ _ _ h (omega arith))

pub returns-then-high-tick : goal.returns-then-high-tick
returns-then-high-tick c = λ s task h e. faulty _ 8 _ (fault_late _ _ _ _ h (omega arith) (omega arith))

pub returns-then-cost-eq0 : goal.returns-then-cost-eq0
returns-then-cost-eq0 c = λ s task h e. faulty _ 9 _ (fault_idle _ _ _ _ h (omega arith) (omega arith) (omega arith))

pub returns-then-most-cost : goal.returns-then-most-cost
returns-then-most-cost c = λ s task h e. faulty _ 9 _ (fault_cost _ _ _ _ h (omega arith) (omega arith) (omega arith) (omega arith))

pub returns : goal.returns
returns c = λ s task h e. faultless _ _ (fault_none _ _ _ _ (omega arith))
