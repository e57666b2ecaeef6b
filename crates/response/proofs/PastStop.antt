-- Past the q at which the walk may stop, W(q) ≤ d_K(q + 1), no larger response bound is met.
use Prim.Native.Nat.{ℕ, suc, ◌+◌, ◌-◌, ◌*◌, ◌≤◌}
use native.Mathlib.Omega.{arith}
use borrow.Author.Tests.{leb-true}
use Rattle.model.specs.Processor.{pickup}
use Rattle.model.specs.Tasks.{Tasks, load, board_of}
use Rattle.model.specs.Gap.{gap}
use Rattle.model.specs.Demand.{above_load, demand}
use Rattle.model.specs.Verdict.{bound_of, is_last}
use Rattle.model.proofs.SeriesLaws.{le_by}
use Rattle.model.proofs.SupplyLaws.{supply_append}
use Rattle.response.specs.KeptOrder.{PastStop}
use Rattle.response.proofs.LoadSums.{Periodic, above_periods, loads_add}
use Rattle.response.proofs.BoundLaws.{bound_is, sub_order}
use Rattle.response.proofs.WindowLaws.{Window, window_some}

module _ (s : Tasks) (k : ℕ → ℕ) (i : ℕ) (p : Periodic s i) where
  -- the tasks above bring no more in t + u ticks than in t and in u
  pub above_sub : (t u : ℕ) → above_load s k i (t + u) ≤ above_load s k i t + above_load s k i u
  unfolding above_load
  above_sub = loads_add (load s) s.period k i p

  -- W(a + 1 + b) ≤ W(a) + W(b)
  pub window_sub : (a b v w t : ℕ) → Window s k i a v → Window s k i b w → Window s k i (suc a + b) t → t ≤ v + w
  unfolding demand
  window_sub a b v w t f g h =
      let x = f.met h.worst in
      let y = g.met (h.worst + x.0) in
      le_by t (v + w)
      (λ l.
      omega (
        arith,
        x.1,
        x.2,
        x.3,
        y.2,
        y.3,
        h.least (x.0 + y.0) (omega (arith, x.1)) (omega (arith, x.2, y.2)),
        above_sub x.0 y.0,
        supply_append (board_of s).ours h.worst x.0 y.0,
      ))

-- the bounds of both by numbers: x is J − bP, and J − (a + 1 + b)P is x − (a + 1)P
pub shorter : (P J K a b v w t : ℕ)
    → 1 ≤ v
    → v ≤ suc a * P - K
    → t ≤ v + w
    → t + pickup + (J - ((suc a + b) * P + K)) + (b * P - J) ≤ w + pickup + (J - (b * P + K)) + ((suc a + b) * P - J)
shorter P J K a b v w t o l h = omega arith

-- R(a + 1 + b) ≤ R(b) where W(a) ≤ d_K(a + 1)
pub past_stop : PastStop
unfolding bound_of is_last gap
past_stop s v k i l a b x w t f e g h =
    let y = window_some s k i v.framed a x f in
    rw (bound_is (s.period i) (s.jitter i) (k i) b w, bound_is (s.period i) (s.jitter i) (k i) (suc a + b) t)
    (sub_order (t + pickup + (s.jitter i - ((suc a + b) * s.period i + k i))) ((suc a + b) * s.period i - s.jitter i)
    (w + pickup + (s.jitter i - (b * s.period i + k i))) (b * s.period i - s.jitter i)
    (shorter (s.period i) (s.jitter i) (k i) a b x w t y.low (leb-true x (suc a * s.period i - k i) e)
    (window_sub s k i (above_periods s v i l) a b x w t y (window_some s k i v.framed b w g) (window_some s k i v.framed (suc a + b) t h))))
