-- Laws of one step of the walk over q.
use Prim.Native.Nat.{ℕ, ◌+◌, ◌-◌, ◌*◌, ◌≤◌, ◌<◌, min}
use mathlib.Core.Path.{◌≡◌}
use native.Mathlib.Omega.{arith}
use native.Mathlib.Nat.{add-mul}
use borrow.Author.Tests.{lt-ltb, le-ltb, le-leb, lt-leb}
use Rattle.model.specs.Processor.{pickup}
use Rattle.model.specs.Gap.{gap}
use Rattle.keeping.specs.declared.Step.TheVariants.{Stops, Fails, Next}
use Rattle.keeping.specs.Keeping.{next_high, step_of}

module _ (P J D high q w : ℕ) where
  -- W(q) + pickup + min(0, x) is over D
  pub step_over : D + (q * P - J) < w + pickup → Fails ≡ step_of P J D high q w
  unfolding step_of
  step_over h = rw (step_of, lt-ltb (D + (q * P - J)) (w + pickup) h)

  -- high − D stops here
  pub step_keep : w + pickup ≤ D + (q * P - J)
      → (n k m : ℕ)
      → n ≡ next_high P J high q w
      → k ≡ n - D
      → m ≡ min n D
      → w ≤ gap P k (q + 1)
      → Stops k m ≡ step_of P J D high q w
  unfolding step_of
  step_keep u n k m e f g h =
      rw (step_of, le-ltb (D + (q * P - J)) (w + pickup) u, le-leb w (gap P (next_high P J high q w - D) (q + 1)) (rw (← e, ← f) h), ← e, ← f, ← g)

  -- it does not
  pub step_next : w + pickup ≤ D + (q * P - J) → (n : ℕ) → n ≡ next_high P J high q w → gap P (n - D) (q + 1) < w → Next n ≡ step_of P J D high q w
  unfolding step_of
  step_next u n e h =
      rw (step_of, le-ltb (D + (q * P - J)) (w + pickup) u, lt-leb w (gap P (next_high P J high q w - D) (q + 1)) (rw (← e) h), ← e)

-- the stop W(q) ≤ d_K(q + 1), without the cut at 0: W(q) is at least 1
pub gap_over : (P K q w : ℕ) → 1 ≤ w → w ≤ gap P K (q + 1) → K + w ≤ q * P + P
unfolding gap
gap_over P K q w l h = omega (arith, add-mul q 1 P)

pub gap_under : (P K q w : ℕ) → gap P K (q + 1) < w → q * P + P < K + w
unfolding gap
gap_under P K q w h = omega (arith, add-mul q 1 P)
