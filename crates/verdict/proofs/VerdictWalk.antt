-- What the walk over q knows on the way.
use Prim.Native.Nat.{ℕ, zero, suc, ◌+◌, ◌*◌, ◌≤◌, ◌<◌}
use mathlib.Core.Path.{◌≡◌}
use mathlib.Core.Option.{some}
use lib.IntN.{ℤ, pos}
use Rattle.model.specs.Series.{sum}
use Rattle.model.specs.Limits.{horizon_tick}
use Rattle.model.specs.Tasks.{Tasks}
use Rattle.model.specs.Demand.{window}
use Rattle.model.specs.Verdict.{peak, stops, bound_at}
use Rattle.model.specs.Evaluations.{counted_at}
use Rattle.model.proofs.SearchLaws.{Sought}
use Rattle.demand.specs.Seeking.{Seeking}
use Rattle.verdict.specs.declared.Best.{Best}

-- the largest of f 0, .., f (q - 1) and the first place that has it; 0 at 0 where q is 0
abbrev pub BestOf : (ℕ → ℤ) → ℕ → Best → Type 0
BestOf f zero b = b ≡ record { worst = 0; first = 0 }
BestOf f (suc n) b = peak f n ≡ record { value = pos b.worst; at = b.first }

-- at the head of the walk: it has stopped at no q so far; W(q) is over d_K(q); the best so far; the evaluations so far
pub record Walk (s : Tasks) (k : ℕ → ℕ) (i q : ℕ) (b : Best) (n : ℕ) : Type 0 where
  pub q_high : q ≤ horizon_tick
  pub sought : Sought (stops s k i) (suc horizon_tick) q
  pub behind : (w : ℕ) → window s k i q ≡ some w → q * s.period i < w + k i
  pub best : BestOf (bound_at s k i) q b
  pub counted : n ≡ sum (counted_at s k i) q
  pub small : n ≤ q * 10000001

-- at the head of the search for W(q), at a start, w being the largest W of those before: how many t have counted, n₀ being the evaluations before it
pub record Find (s : Tasks) (k : ℕ → ℕ) (i q n₀ n start w t : ℕ) : Type 0 where
  pub tries : ℕ
  pub counted : n ≡ n₀ + tries
  pub search : Seeking s k i q start w tries t
