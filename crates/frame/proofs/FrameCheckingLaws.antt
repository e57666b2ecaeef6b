-- Laws of the check of a frame, window by window.
use Prim.Native.Nat.{ℕ, ◌+◌, ◌≤◌, ◌<◌}
use mathlib.Core.Path.{◌≡◌, refl}
use mathlib.Core.Bool.{true, false, not}
use mathlib.Core.Option.{some, none}
use native.Mathlib.Omega.{arith}
use native.Mathlib.Numerals.{add-one}
use borrow.Author.Tests.{not-false}
use Rattle.model.specs.Frame as model_frame
use Rattle.model.specs.Refusal.{refuse}
use Rattle.model.specs.Checks.{floor_of, allowed, is_outside, check_windows, check_frame}
use Rattle.model.proofs.SearchLaws.{Sought, sought_none, sought_next, sought_here, sought_all}
use Rattle.model.proofs.FrameCheckLaws.{Sized, allowed_of, refuses_window, passes_windows}

-- the loop has passed the windows below k, and low is the least first tick of the next
pub record Checking (f : model_frame.Frame) (k low : ℕ) : Type 0 where
  pub sized : Sized f
  pub sought : Sought (is_outside f) f.count k
  pub low_is : low ≡ floor_of f k

module _ (f : model_frame.Frame) where
  pub checking_none : Sized f → Checking f 0 0
  unfolding floor_of
  checking_none z = record { sized = z; sought = sought_none _ _; low_is = refl }

  -- one window more is within the rules ..
  pub checking_next
      : (k low : ℕ) → Checking f k low → k < f.count → not (allowed low (f.first k) (f.size k) f.ticks) ≡ false
      → Checking f (k + 1) (f.first k + f.size k + 1)
  unfolding floor_of is_outside
  checking_next k low c l h =
      record { sized = c.sized; sought = sought_next (is_outside f) f.count k c.sought l (rw c.low_is at h); low_is = rw (add-one k) refl }

  -- .. and so is small
  pub checking_small
      : (k low : ℕ) → Checking f k low → not (allowed low (f.first k) (f.size k) f.ticks) ≡ false → f.first k + f.size k ≤ 10000
  checking_small k low c h = omega (arith, (allowed_of _ _ _ _ (not-false _ h)).inside, c.sized.ticks_high)

  -- it is outside them
  pub checking_here
      : (k low : ℕ) → Checking f k low → k < f.count → not (allowed low (f.first k) (f.size k) f.ticks) ≡ true → refuse 18 k ≡ check_windows f
  unfolding is_outside
  checking_here k low c l h = refuses_window f k c.sized (sought_here (is_outside f) f.count k c.sought l (rw c.low_is at h))

  -- all are within them
  pub checking_all : (k low : ℕ) → Checking f k low → f.count ≤ k → none ≡ check_windows f
  checking_all k low c l = passes_windows f c.sized (sought_all (is_outside f) f.count k c.sought l)

-- no frame passes, and the check of a frame is that of its windows
pub absent_passes : none ≡ check_frame none
unfolding check_frame
absent_passes = refl

pub present_check : (f : model_frame.Frame) → check_windows f ≡ check_frame (some f)
unfolding check_frame
present_check f = refl
