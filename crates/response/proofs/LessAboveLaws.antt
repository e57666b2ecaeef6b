-- Smaller kept jitters above: no larger demand, W(q) and R(q), and no later end of the walk, so a task that fits stays fitting.
use Prim.Native.Nat.{ℕ, suc, ◌-◌, ◌*◌, ◌≤◌, ◌<◌}
use mathlib.Core.Path.{◌≡◌, sym, ◌∙◌}
use mathlib.Core.Bool.{true}
use mathlib.Core.Option.{some, some-injective}
use native.Mathlib.Omega.{arith}
use borrow.Author.Tests.{leb-true, le-leb}
use lib.Signed.{◌≤ℤ◌}
use Rattle.model.specs.Tasks.{Tasks, Valid}
use Rattle.model.specs.Gap.{gap}
use Rattle.model.specs.Demand.{window}
use Rattle.model.specs.Verdict.{bound_of, is_last, bound_at, peak, verdict}
use Rattle.model.specs.Choice.{worst_of}
use Rattle.response.specs.VerdictSays.{Passed}
use Rattle.response.specs.KeptOrder.{LessAbove, LessAboveIsNoWorse}
use Rattle.response.proofs.LoadSums.{above_periods}
use Rattle.response.proofs.BoundLaws.{bound_order, not_late, in_time_by}
use Rattle.response.proofs.KeptLaws.{demand_keeps, window_keeps}
use Rattle.response.proofs.VerdictLaws.{stop_last}
use Rattle.response.proofs.WalkEnds.{Ended, ended, last_stops, ends_by, passed_to, says_fits, takes, fits_passed, passed_fits}
use Rattle.response.proofs.PeakLaws.{order_trans, peak_most, peak_over}

-- R(q), where there is a W(q)
pub bound_at_lem : (s : Tasks) (k : ℕ → ℕ) (i q w : ℕ) → window s k i q ≡ some w → bound_at s k i q ≡ bound_of s k i q w
unfolding bound_at
bound_at_lem s k i q w h = rw (bound_at, h)

module _ (s : Tasks) (v : Valid s) (k k' : ℕ → ℕ) (i : ℕ) (l : i < s.count) (less : LessAbove k k' i) where
  windows : (q w : ℕ) → window s k' i q ≡ some w → (x : ℕ) × (window s k i q ≡ some x) × (x ≤ w)
  windows = window_keeps s i (above_periods s v i l) k k' less.above v.framed

  bounds : (q w : ℕ) → window s k' i q ≡ some w → bound_at s k i q ≤ℤ bound_at s k' i q
  unfolding bound_of
  bounds q w h =
      let x = windows q w h in
      rw (bound_at_lem s k i q x.0 x.1, bound_at_lem s k' i q w h)
      (bound_order (s.period i) (s.jitter i) (k i) (k' i) q x.0 w (omega (arith, x.2, less.own)))

  ends : (q x w : ℕ) → window s k i q ≡ some x → window s k' i q ≡ some w → is_last s k' i q w ≡ true → is_last s k i q x ≡ true
  unfolding is_last gap
  ends q x w h g e =
      let y = windows q w g in
      let same : y.0 ≡ x = some-injective _ _ (sym y.1 ∙ h) in
      le-leb x (suc q * s.period i - k i) (omega (arith, y.2, same, less.own, leb-true w (suc q * s.period i - k' i) e))

  -- a q that is passed with k' is passed with k
  passes : (q : ℕ) → Passed s k' i q → Passed s k i q
  passes q p =
      let x = windows q p.w p.is in
      record {
        w = x.0;
        is = x.1;
        in_time = in_time_by s k i q x.0 (omega (arith, x.2, less.own, not_late s k' i q p.w p.in_time));
      }

  module _ (e : Ended s k i) (e' : Ended s k' i) (p : Passed s k' i e'.at) where
    -- the walk with k ends no later
    sooner : e.at ≤ e'.at
    unfolding gap
    sooner =
        let x = windows e'.at p.w p.is in
        let y = passes e'.at p in
        let same : x.0 ≡ y.w = some-injective _ _ (sym x.1 ∙ y.is) in
        ends_by s k i e e'.at (last_stops s k i e'.at y (omega (arith, x.2, same, less.own, stop_last s k' i e'.at p e'.found.holds)))

    -- and at a q that is passed
    passed : Passed s k i e.at
    passed = passes e.at (passed_to s k' i e' p e.at sooner)

    -- the largest R is no larger
    peaks : (peak (bound_at s k i) e.at).value ≤ℤ (peak (bound_at s k' i) e'.at).value
    peaks = peak_most (bound_at s k i) e.at _ (λ x g. under x (omega (arith, sooner)))
      where
        under : (x : ℕ) → x ≤ e'.at → bound_at s k i x ≤ℤ (peak (bound_at s k' i) e'.at).value
        under x g =
            let y = passed_to s k' i e' p x g in
            order_trans (bound_at s k i x) (bound_at s k' i x) _ (bounds x y.w y.is) (peak_over (bound_at s k' i) e'.at x g)

    worst : worst_of (verdict s k i) ≤ℤ worst_of (verdict s k' i)
    unfolding worst_of
    worst = rw (says_fits s k i e passed, says_fits s k' i e' p) peaks

pub less_above : LessAboveIsNoWorse
less_above s v k k' i l less = record {
  demands = demand_keeps s i (above_periods s v i l) k k' less.above;
  windows = windows s v k k' i l less;
  bounds = bounds s v k k' i l less;
  ends = ends s v k k' i l less;
  fit = λ h. passed_fits s k i e (passed s v k k' i l less e e' (fits_passed s k' i e' h));
  sooner = λ h. omega (arith, takes s k i e, takes s k' i e', sooner s v k k' i l less e e' (fits_passed s k' i e' h));
  worst = λ h. worst s v k k' i l less e e' (fits_passed s k' i e' h);
}
  where
    e : Ended s k i
    e = ended s k i v.framed (v.in_range_lem i l).cost_low

    e' : Ended s k' i
    e' = ended s k' i v.framed (v.in_range_lem i l).cost_low
