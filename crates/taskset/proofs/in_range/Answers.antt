-- Each test that fails leaves one bound of the record `InRange` unmet.
use mathlib.Core.Path.{sym}
use native.Mathlib.Omega.{arith}
use Rattle.model.proofs.CheckLaws.{in_range_yes, in_range_no}
use Rattle.taskset.proofs.in_range.Goals as goal

pub returns-then-t-lt1 : goal.returns-then-t-lt1
returns-then-t-lt1 c = sym (in_range_no _ _ _ _ (λ h. omega arith))

pub returns-then-t-gt1000000 : goal.returns-then-t-gt1000000
returns-then-t-gt1000000 c = sym (in_range_no _ _ _ _ (λ h. omega arith))

pub returns-then-t-gt1000000-2 : goal.returns-then-t-gt1000000-2
returns-then-t-gt1000000-2 c = sym (in_range_no _ _ _ _ (λ h. omega arith))

pub returns-then-t-lt1-2 : goal.returns-then-t-lt1-2
returns-then-t-lt1-2 c = sym (in_range_no _ _ _ _ (λ h. omega arith))

pub returns-then-t : goal.returns-then-t
returns-then-t c = sym (in_range_no _ _ _ _ (λ h. omega arith))

pub returns-then-t-2 : goal.returns-then-t-2
returns-then-t-2 c = sym (in_range_no _ _ _ _ (λ h. omega arith))

pub returns-then-t-gt1000000-3 : goal.returns-then-t-gt1000000-3
returns-then-t-gt1000000-3 c = sym (in_range_no _ _ _ _ (λ h. omega arith))

pub returns : goal.returns
returns c = sym (in_range_yes _ _ _ _ (omega arith))
