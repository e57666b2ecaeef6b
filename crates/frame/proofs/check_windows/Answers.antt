use mathlib.Core.Path.{sym, ap, ◌∙◌}
use mathlib.Core.Bool.{not}
use mathlib.Core.Logic.{inl, inr}
use native.Mathlib.Omega.{arith}
use Rattle.model.proofs.FrameCheckLaws.{refuses_ticks, refuses_windows}
use Rattle.frame.proofs.FrameCheckingLaws.{checking_none, checking_next, checking_small, checking_here, checking_all}
use Rattle.frame.proofs.check_windows.Goals as goal

pub returns-then-ticks-lt1 : goal.returns-then-ticks-lt1
returns-then-ticks-lt1 c = refuses_ticks _ (inl (omega arith))

pub returns-then-ticks-gt10000 : goal.returns-then-ticks-gt10000
returns-then-ticks-gt10000 c = refuses_ticks _ (inr (omega arith))

pub returns-then-count-lt1 : goal.returns-then-count-lt1
returns-then-count-lt1 c = refuses_windows _ (omega arith) (omega arith) (inl (omega arith))

pub returns-then-count-gt16 : goal.returns-then-count-gt16
returns-then-count-gt16 c = refuses_windows _ (omega arith) (omega arith) (inr (omega arith))

pub loop-k-init : goal.loop-k-init
loop-k-init c = checking_none _ (record { ticks_low = omega arith; ticks_high = omega arith; count_low = omega arith; count_high = omega arith })

pub returns-then-not-is_allowed : goal.returns-then-not-is_allowed
returns-then-not-is_allowed c = checking_here _ _ _ c.loop-k.invariant c.loop-k-test.true (ap not (sym c.is_allowed.ensures ∙ c.if-not-is_allowed.true))

pub overflow_add-low : goal.overflow_add-low
overflow_add-low c = omega (arith, checking_small _ _ _ c.loop-k.invariant (ap not (sym c.is_allowed.ensures ∙ c.if-not-is_allowed.false)))

pub overflow_add-low-in-loop-k : goal.overflow_add-low-in-loop-k
overflow_add-low-in-loop-k c = omega (arith, checking_small _ _ _ c.loop-k.invariant (ap not (sym c.is_allowed.ensures ∙ c.if-not-is_allowed.false)))

pub loop-k-preserved : goal.loop-k-preserved
loop-k-preserved c = checking_next _ _ _ c.loop-k.invariant c.loop-k-test.true (ap not (sym c.is_allowed.ensures ∙ c.if-not-is_allowed.false))

pub returns : goal.returns
returns c = checking_all _ _ _ c.loop-k.invariant c.loop-k-test.false
