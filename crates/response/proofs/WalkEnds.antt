-- Where the walk over q ends, and what the verdict is there.
use Prim.Native.Nat.{ℕ, suc, ◌≤◌, ◌<◌}
use mathlib.Core.Path.{◌≡◌, refl, sym, ap, ◌∙◌}
use mathlib.Core.Logic.{⊎_elim}
use mathlib.Core.Bool.{true, false}
use mathlib.Core.Option.{Option, some, none}
use native.Mathlib.Omega.{arith}
use native.Mathlib.Nat.{eq-or-lt_of_le}
use borrow.Author.Tests.{leb-false, le-leb, lt-leb}
use Rattle.model.specs.Search.{first}
use Rattle.model.specs.Limits.{horizon_tick}
use Rattle.model.specs.Tasks.{Tasks}
use Rattle.model.specs.Gap.{gap}
use Rattle.model.specs.Demand.{window}
use Rattle.model.specs.Verdict.{bound_of, bound_at, peak, horizon, late, fits, is_last, stops, judge, verdict}
use Rattle.model.specs.Evaluations.{taken}
use Rattle.model.specs.Choice.{is_fits}
use Rattle.model.proofs.SeriesLaws.{clash, le_by}
use Rattle.model.proofs.SearchLaws.{Found, first_found, first_is}
use Rattle.model.proofs.FrameLaws.{Ruled}
use Rattle.response.specs.VerdictSays.{Missing, Passed}
use Rattle.response.proofs.VerdictLaws.{Case, beyond, missing, passing, case_of, stops_some, judge_none, judge_late, judge_fits, goes_on, walk_stops}

-- the first q at which the walk stops
pub record Ended (s : Tasks) (k : ℕ → ℕ) (i : ℕ) : Type 0 where
  pub at : ℕ
  pub found : Found (stops s k i) (suc horizon_tick) 0 at

-- the walk ends
pub ended : (s : Tasks) (k : ℕ → ℕ) (i : ℕ) → Ruled s.frame → 1 ≤ s.cost i → Ended s k i
ended s k i v c = go (first (stops s k i) (suc horizon_tick) 0) refl
  where
    go : (o : Option ℕ) → first (stops s k i) (suc horizon_tick) 0 ≡ o → Ended s k i
    go none e = absurd (walk_stops s k i v c e)
    go (some q) e = record { at = q; found = first_found (stops s k i) (suc horizon_tick) 0 q e }

module _ (s : Tasks) (k : ℕ → ℕ) (i : ℕ) where
  -- a q that is passed and has no W(q) over the next gap stops the walk
  pub last_stops : (q : ℕ) (p : Passed s k i q) → p.w ≤ gap (s.period i) (k i) (suc q) → stops s k i q ≡ true
  unfolding is_last
  last_stops q p h = stops_some s k i q p.w p.is ∙ rw p.in_time (le-leb _ _ h)

  -- one that has a W(q) over it does not
  pub over_goes : (q : ℕ) (p : Passed s k i q) → gap (s.period i) (k i) (suc q) < p.w → stops s k i q ≡ false
  unfolding is_last
  over_goes q p h = stops_some s k i q p.w p.is ∙ rw p.in_time (lt-leb _ _ h)

  -- and back
  pub goes_over : (q : ℕ) (p : Passed s k i q) → stops s k i q ≡ false → gap (s.period i) (k i) (suc q) < p.w
  unfolding is_last
  goes_over q p h = leb-false _ _ (sym (rw p.in_time at (stops_some s k i q p.w p.is)) ∙ h)

  -- a late q stops it
  pub missing_stops : (q : ℕ) → Missing s k i q → stops s k i q ≡ true
  missing_stops q m = stops_some s k i q m.w m.is ∙ rw m.over

  module _ (e : Ended s k i) where
    -- it ends no later than at any q that stops it
    pub ends_by : (q : ℕ) → stops s k i q ≡ true → e.at ≤ q
    ends_by q h = le_by e.at q (λ (l : q < e.at). clash (stops s k i q) h (e.found.before q (omega arith) l))

    -- the q before are passed, and that one too where it is
    pub passed_to : Passed s k i e.at → (q : ℕ) → q ≤ e.at → Passed s k i q
    passed_to p q l = ⊎_elim (λ x. rw x p) (λ x. goes_on s k i q (e.found.before q (omega arith) x)) (eq-or-lt_of_le l)

    -- the verdict is what is said there
    says : verdict s k i ≡ judge s k i e.at
    unfolding verdict
    says = rw (verdict, first_is (stops s k i) (suc horizon_tick) 0 e.at e.found)

    pub says_late : (m : Missing s k i e.at) → verdict s k i ≡ late e.at (bound_of s k i e.at m.w)
    says_late m = says ∙ judge_late s k i e.at m.w m.is m.over

    pub says_fits : Passed s k i e.at → verdict s k i ≡ fits (peak (bound_at s k i) e.at).value (peak (bound_at s k i) e.at).at
    says_fits p = says ∙ judge_fits s k i e.at p.w p.is p.in_time

    pub says_horizon : window s k i e.at ≡ none → verdict s k i ≡ horizon e.at
    says_horizon h = says ∙ judge_none s k i e.at h

    -- the q that it takes
    pub takes : taken s k i ≡ suc e.at
    unfolding taken
    takes = rw (taken, first_is (stops s k i) (suc horizon_tick) 0 e.at e.found)

    -- a task that fits has passed it, and back
    pub fits_passed : is_fits (verdict s k i) ≡ true → Passed s k i e.at
    unfolding is_fits
    fits_passed h = go (case_of s k i e.at)
      where
        go : Case s k i e.at → Passed s k i e.at
        go (beyond x) = clash (is_fits (verdict s k i)) h (ap is_fits (says_horizon x))
        go (missing m) = clash (is_fits (verdict s k i)) h (ap is_fits (says_late m))
        go (passing p) = p

    pub passed_fits : Passed s k i e.at → is_fits (verdict s k i) ≡ true
    unfolding is_fits
    passed_fits p = ap is_fits (says_fits p)
