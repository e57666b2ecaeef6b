-- What the verdict of a task says where its walk stops, and the q that it takes.
use Prim.Native.Nat.{ℕ, suc, ◌≤◌, ◌<◌}
use mathlib.Core.Path.{◌≡◌}
use mathlib.Core.Bool.{true, false}
use mathlib.Core.Option.{some, none}
use native.Mathlib.Omega.{arith}
use borrow.Author.Tests.{leb-true, leb-false}
use Rattle.model.specs.Limits.{horizon_tick}
use Rattle.model.specs.Tasks.{Tasks}
use Rattle.model.specs.Demand.{window}
use Rattle.model.specs.Verdict.{horizon, late, fits, bound_of, is_late, is_last, stops, bound_at, peak, verdict}
use Rattle.model.specs.Evaluations.{taken}
use Rattle.response.specs.VerdictSays.{Missing, Passed}
use Rattle.response.proofs.VerdictLaws.{stops_none}
use Rattle.response.proofs.WalkEnds.{Ended, last_stops, over_goes, missing_stops, says_late, says_fits, says_horizon, takes}

module _ (s : Tasks) (k : ℕ → ℕ) (i : ℕ) where
  -- the walk over q has not stopped before q
  abbrev pub Passes : ℕ → Type 0
  Passes q = (x : ℕ) → x < q → stops s k i x ≡ false

  -- it ends at q where it stops there
  abbrev end_at : (q : ℕ) → q ≤ horizon_tick → Passes q → stops s k i q ≡ true → Ended s k i
  end_at q h f e = record { at = q; found = record { holds = e; low = omega arith; high = omega arith; before = λ x a b. f x b } }

  module _ (q w : ℕ) (e : window s k i q ≡ some w) where
    abbrev missed : is_late s k i q w ≡ true → Missing s k i q
    missed l = record { w = w; is = e; over = l }

    abbrev passed : is_late s k i q w ≡ false → Passed s k i q
    passed l = record { w = w; is = e; in_time = l }

    pub passes_on : is_late s k i q w ≡ false → is_last s k i q w ≡ false → stops s k i q ≡ false
    unfolding is_last
    passes_on l f = over_goes s k i q (passed l) (leb-false _ _ f)

    stops_last : is_late s k i q w ≡ false → is_last s k i q w ≡ true → stops s k i q ≡ true
    unfolding is_last
    stops_last l m = last_stops s k i q (passed l) (leb-true _ _ m)

    -- "late"
    pub late_at : q ≤ horizon_tick → Passes q → is_late s k i q w ≡ true → verdict s k i ≡ late q (bound_of s k i q w)
    late_at h f l = says_late s k i (end_at q h f (missing_stops s k i q (missed l))) (missed l)

    module _ (h : q ≤ horizon_tick) (f : Passes q) (l : is_late s k i q w ≡ false) (m : is_last s k i q w ≡ true) where
      -- "fits"
      pub fits_at : verdict s k i ≡ fits (peak (bound_at s k i) q).value (peak (bound_at s k i) q).at
      fits_at = says_fits s k i (end_at q h f (stops_last l m)) (passed l)

      -- the q that it takes
      pub taken_at : taken s k i ≡ suc q
      taken_at = takes s k i (end_at q h f (stops_last l m))

  -- "horizon"
  pub horizon_at : (q : ℕ) → q ≤ horizon_tick → Passes q → window s k i q ≡ none → verdict s k i ≡ horizon q
  horizon_at q h f e = says_horizon s k i (end_at q h f (stops_none s k i q e)) e
