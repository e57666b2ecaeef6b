-- Laws of the walk over q: what it says where it stops, and what it knows where it goes on.
use Prim.Native.Nat.{ℕ, suc, ◌+◌, ◌*◌, ◌≤◌, ◌<◌}
use mathlib.Core.Path.{◌≡◌, refl, sym, ap₂}
use mathlib.Core.Bool.{true, false}
use mathlib.Core.Option.{some, none}
use native.Mathlib.Omega.{arith}
use native.Mathlib.Numerals.{add-one}
use borrow.Author.Tests.{lt-ltb, le-ltb, le-leb, lt-leb}
use lib.IntN.{pos}
use Rattle.model.specs.Series.{sum}
use Rattle.model.specs.Limits.{horizon_tick}
use Rattle.model.specs.Tasks.{Tasks, load}
use Rattle.model.specs.Gap.{gap}
use Rattle.model.specs.Demand.{window}
use Rattle.model.specs.Bound.{bound}
use Rattle.model.specs.Evaluations.{taken, counted_at, evaluations, judged}
use Rattle.model.specs.Verdict.{Verdict, horizon, late, fits, bound_of, is_late, is_last, stops, bound_at, judge, verdict}
use Rattle.model.proofs.SearchLaws.{sought_none, sought_next, sought_here}
use Rattle.model.proofs.FrameLaws.{Ruled}
use Rattle.response.proofs.WindowLaws.{window_some, window_over}
use Rattle.response.proofs.LoadSums.{Periodic}
use Rattle.demand.proofs.DemandLaws.{window_rises}
use Rattle.verdict.specs.declared.Best.{Best}
use Rattle.verdict.proofs.VerdictWalk.{Walk}
use Rattle.verdict.specs.Walking.{better_of}
use Rattle.verdict.proofs.BestLaws.{best_next}

module _ (s : Tasks) (k : ℕ → ℕ) (i : ℕ) where
  -- before the first q
  pub walk_start : Ruled s.frame → Walk s k i 0 (record { worst = 0; first = 0 }) 0
  unfolding sum
  walk_start v =
      record {
        q_high = omega arith;
        sought = sought_none (stops s k i) (suc horizon_tick);
        behind = λ w e. omega (arith, (window_some s k i v 0 w e).low);
        best = refl;
        counted = refl;
        small = omega arith;
      }

  module _ (q n : ℕ) (b : Best) (w : Walk s k i q b n) (m : ℕ) (e : m ≡ n + counted_at s k i q) where
    -- where the walk stops, its verdict is what is said there, and every t so far has been counted
    stop_at : (v : Verdict) → v ≡ judge s k i q → stops s k i q ≡ true → record { says = v; evaluations = m } ≡ judged s k i
    unfolding verdict taken evaluations sum
    stop_at v g h =
        let d = sought_here (stops s k i) (suc horizon_tick) q w.sought (omega arith) h in
        ap₂ (λ (x : Verdict) (y : ℕ). record { says = x; evaluations = y }) (rw (verdict, d) g) (rw (evaluations, taken, d) (omega (arith, w.counted)))

    -- no W(q) up to H
    pub says_horizon : window s k i q ≡ none → record { says = horizon q; evaluations = m } ≡ judged s k i
    unfolding stops judge
    says_horizon h = stop_at (horizon q) (rw (judge, h)) (rw (stops, h))

  -- R(q) as a natural number
  module _ (q t r : ℕ) (found : window s k i q ≡ some t) (is : pos r ≡ bound (s.period i) (s.jitter i) (k i) q t) where
    -- the test R(q) > D
    late_yes : s.deadline i < r → is_late s k i q t ≡ true
    unfolding is_late bound_of
    late_yes h = rw (is_late, ← is) (lt-ltb _ _ h)

    late_no : r ≤ s.deadline i → is_late s k i q t ≡ false
    unfolding is_late bound_of
    late_no h = rw (is_late, ← is) (le-ltb _ _ h)

    -- R(q) among the values met
    at_is : bound_at s k i q ≡ pos r
    unfolding bound_at bound_of
    at_is = rw (bound_at, found) (sym is)

    -- R(q) > D
    pub says_late : (b : Best) (n m : ℕ)
        → Walk s k i q b n
        → m ≡ n + counted_at s k i q
        → s.deadline i < r
        → record { says = late q (pos r); evaluations = m } ≡ judged s k i
    unfolding stops judge bound_of
    says_late b n m w e h = stop_at q n b w m e (late q (pos r)) (rw (judge, found, late_yes h, is)) (rw (stops, found, late_yes h))

    -- W(q) ≤ d_K(q + 1)
    pub says_fits : (b : Best) (n m : ℕ)
        → Walk s k i q b n
        → m ≡ n + counted_at s k i q
        → 1 ≤ r
        → r ≤ s.deadline i
        → t ≤ gap (s.period i) (k i) (q + 1)
        → record { says = fits (pos (better_of b r q).worst) (better_of b r q).first; evaluations = m } ≡ judged s k i
    unfolding stops judge is_last
    says_fits b n m w e l h g =
        stop_at q n b w m e (fits (pos (better_of b r q).worst) (better_of b r q).first)
        (rw (judge, found, late_no h, best_next (bound_at s k i) q b r w.best l at_is))
        (rw (stops, found, late_no h, is_last, le-leb t (gap (s.period i) (k i) (suc q)) (rw add-one at g)))

    -- none of them
    pub walk_on : (b : Best) (n m : ℕ)
        → Walk s k i q b n
        → m ≡ n + counted_at s k i q
        → m ≤ n + 10000001
        → Ruled s.frame
        → Periodic s i
        → 1 ≤ load s i
        → 1 ≤ r
        → r ≤ s.deadline i
        → gap (s.period i) (k i) (q + 1) < t
        → Walk s k i (q + 1) (better_of b r q) m
    unfolding stops is_last gap sum
    walk_on b n m w d c v p e l h g =
        record {
          q_high = omega (arith, window_over s k i v q t e found, (window_some s k i v q t found).high);
          sought =
              sought_next (stops s k i) (suc horizon_tick) q w.sought (omega arith)
              (rw (stops, found, late_no h, is_last, lt-leb t (gap (s.period i) (k i) (suc q)) (rw add-one at g)));
          behind = λ x f. behind x (rw add-one at f);
          best = rw add-one (best_next (bound_at s k i) q b r w.best l at_is);
          counted = rw add-one (omega (arith, w.counted));
          small = omega (arith, w.small);
        }
      where
        behind : (x : ℕ) → window s k i (suc q) ≡ some x → (q + 1) * s.period i < x + k i
        behind x f =
            omega (arith, window_rises s k i p e q t x (window_some s k i v q t found) (window_some s k i v (suc q) x f))
