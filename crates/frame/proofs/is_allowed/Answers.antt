-- A test that fails is a rule broken; past them all no rule is.
use mathlib.Core.Path.{sym}
use native.Mathlib.Omega.{arith}
use Rattle.model.proofs.FrameCheckLaws.{allowed_yes, allowed_no}
use Rattle.frame.proofs.is_allowed.Goals as goal

pub returns-then-w-low : goal.returns-then-w-low
returns-then-w-low c = sym (allowed_no _ _ _ _ (λ h. omega arith))

pub returns-then-w-lt1 : goal.returns-then-w-lt1
returns-then-w-lt1 c = sym (allowed_no _ _ _ _ (λ h. omega arith))

pub returns-then-from : goal.returns-then-from
returns-then-from c = sym (allowed_no _ _ _ _ (λ h. omega arith))

pub returns : goal.returns
returns c = sym (allowed_yes _ _ _ _ (omega arith))
