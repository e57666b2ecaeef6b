-- The best value so far is the peak.
use Prim.Native.Nat.{ℕ, zero, suc, ◌≤◌}
use mathlib.Core.Path.{◌≡◌, refl}
use mathlib.Core.Bool.{Bool, true, false}
use borrow.Author.Tests.{lt-ltb}
use lib.Dec.{ltb}
use lib.IntN.{ℤ, pos}
use Rattle.model.specs.Verdict.{peak}
use Rattle.verdict.specs.declared.Best.{Best}
use Rattle.verdict.proofs.VerdictWalk.{BestOf}
use Rattle.verdict.specs.Walking.{better_of}

-- after R at q, the best is the peak of the values up to q
pub best_next : (f : ℕ → ℤ) (q : ℕ) (b : Best) (r : ℕ) → BestOf f q b → 1 ≤ r → f q ≡ pos r → BestOf f (suc q) (better_of b r q)
unfolding better_of peak
best_next f zero b r h l e = rw (h, lt-ltb 0 r l, e)
best_next f (suc n) b r h l e = go (ltb b.worst r) refl
  where
    go : (t : Bool) → ltb b.worst r ≡ t → BestOf f (suc (suc n)) (better_of b r (suc n))
    go true g = rw (peak, h, e, g, e)
    go false g = rw (peak, h, e, g) h
