-- The largest R of a verdict that is "fits" is at least 1: R(0) is.
use Prim.Native.Nat.{ℕ, zero, suc, ◌+◌, ◌-◌, ◌*◌}
use mathlib.Core.Path.{◌≡◌, refl, ap, ◌∙◌}
use mathlib.Core.Bool.{Bool, true, false}
use native.Mathlib.Omega.{arith}
use lib.IntN.{ℤ, pos, negsuc}
use lib.Signed.{lt_z}
use borrow.Author.Tests.{ltb-true}
use Rattle.model.specs.Processor.{pickup}
use Rattle.model.specs.Tasks.{Tasks}
use Rattle.model.specs.Verdict.{fits, bound_of, bound_at, peak, verdict}
use Rattle.model.proofs.FrameLaws.{Ruled}
use Rattle.response.proofs.BoundLaws.{bound_up}
use Rattle.response.proofs.WindowLaws.{window_some}
use Rattle.response.specs.VerdictSays.{Passed, Walked}
use Rattle.response.proofs.VerdictLaws.{fits_says, fits_peak}

-- an integer that is at least 1
abbrev pub Positive : ℤ → Type 0
Positive z = (n : ℕ) × (z ≡ pos (suc n))

-- what is over a positive integer is positive
over : (n : ℕ) (z : ℤ) → lt_z (pos (suc n)) z ≡ true → Positive z
over n (pos zero) h = absurd (omega (arith, ltb-true (suc n) 0 h))
over n (pos (suc m)) h = (m, refl)
over n (negsuc m) h = let z : ◌≡◌ {A = ℕ} 0 1 = cc in absurd (omega arith)

-- a largest value is positive where the first one is
peak_positive : (f : ℕ → ℤ) → Positive (f 0) → (q : ℕ) → Positive (peak f q).value
unfolding peak
peak_positive f h zero = h
peak_positive f h (suc q) = go (lt_z (peak f q).value (f (suc q))) refl (peak_positive f h q)
  where
    go : (b : Bool) → lt_z (peak f q).value (f (suc q)) ≡ b → Positive (peak f q).value → Positive (peak f (suc q)).value
    go true g (n, e) = rw (peak, g) (over n (f (suc q)) (rw e at g))
    go false g e = rw (peak, g) e

module _ (s : Tasks) (v : Ruled s.frame) (k : ℕ → ℕ) (i : ℕ) where
  -- R(0)
  first_positive : (p : Passed s k i 0) → Positive (bound_at s k i 0)
  unfolding bound_at bound_of
  first_positive p = (
    p.w + pickup + (s.jitter i - (0 * s.period i + k i)) - 1,
    rw (bound_at, p.is)
        (bound_up (s.period i) (s.jitter i) (k i) 0 p.w (omega arith)
        ∙ ap pos (omega (arith, (window_some s k i v 0 p.w p.is).low))),
  )

  -- the largest R of "fits"
  pub worst_positive : (r : ℤ) (n : ℕ) → verdict s k i ≡ fits r n → Positive r
  worst_positive r n h =
      let d : Walked s k i = fits_says s k i r n h in
      let p : (q : ℕ) × ((peak (bound_at s k i) q).value ≡ r) = fits_peak s k i r n h in
      rw p.1 at (peak_positive (bound_at s k i) (first_positive (d.passed 0 (omega arith))) p.0)
