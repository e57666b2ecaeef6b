-- A smaller own kept jitter: the same W(q), no smaller R(q), no later end of the walk; over a task's own K the verdicts are late, then fits, then horizon.
use Prim.Native.Nat.{ℕ, zero, suc, ◌+◌, ◌-◌, ◌*◌, ◌≤◌, ◌<◌}
use mathlib.Core.Path.{◌≡◌, refl, sym, ap, ◌∙◌}
use mathlib.Core.Bool.{true, false}
use mathlib.Core.Logic.{⊎_elim, dite}
use mathlib.Core.Option.{Option, some, none, some-injective}
use native.Mathlib.Omega.{arith}
use native.Mathlib.Nat.{eq-or-lt_of_le}
use native.Mathlib.Decide.{dec_le}
use borrow.Author.Tests.{leb-true, le-leb}
use lib.Signed.{◌≤ℤ◌, ≤ℤ_refl}
use Rattle.model.specs.Tasks.{Tasks, Valid}
use Rattle.model.specs.Gap.{gap}
use Rattle.model.specs.Demand.{window}
use Rattle.model.specs.Verdict.{bound_of, is_late, is_last, bound_at, stops, verdict}
use Rattle.model.proofs.SeriesLaws.{clash, le_by}
use Rattle.model.proofs.FrameLaws.{Ruled}
use Rattle.model.proofs.SameVerdict.{window_same}
use Rattle.response.specs.VerdictSays.{Missing, Passed}
use Rattle.response.specs.KeptOrder.{LessOwn, LessOwnIsOrdered, stage}
use Rattle.response.proofs.LoadSums.{Periodic, above_periods}
use Rattle.response.proofs.BoundLaws.{bound_order, is_late_lem, not_late, late_by, in_time_by}
use Rattle.response.proofs.WindowLaws.{window_some}
use Rattle.response.proofs.PastStop.{window_sub, shorter}
use Rattle.response.proofs.VerdictLaws.{Case, beyond, missing, passing, case_of, stops_none, goes_on, stop_last}
use Rattle.response.proofs.WalkEnds.{Ended, ended, over_goes, goes_over, missing_stops, ends_by, passed_to, says_late, says_fits, says_horizon}
use Rattle.response.proofs.LessAboveLaws.{bound_at_lem}

-- a q that has a W(q)
abbrev Has : Tasks → (ℕ → ℕ) → ℕ → ℕ → Type 0
Has s k i q = (w : ℕ) × (window s k i q ≡ some w)

-- a q is not both passed and late
not_both : {A : Type 0} (s : Tasks) (k : ℕ → ℕ) (i q : ℕ) → Passed s k i q → Missing s k i q → A
not_both s k i q p m =
    let same : p.w ≡ m.w = some-injective _ _ (sym p.is ∙ m.is) in
    clash (is_late s k i q m.w) m.over (sym (ap (is_late s k i q) same) ∙ p.in_time)

-- past a q at which the walk may end, a, no q is late whose W(q), and that of each q before it, is there
module _ (s : Tasks) (k : ℕ → ℕ) (i : ℕ) (ruled : Ruled s.frame) (p : Periodic s i) (a : ℕ)
    (to : (q : ℕ) → q ≤ a → Passed s k i q) (last : (to a (omega arith)).w ≤ gap (s.period i) (k i) (suc a)) where
  -- one such q from another
  from : (b w t : ℕ) → window s k i b ≡ some w → is_late s k i b w ≡ false → window s k i (suc a + b) ≡ some t → is_late s k i (suc a + b) t ≡ false
  unfolding gap
  from b w t h f g =
      let x = to a (omega arith) in
      let y = window_some s k i ruled a x.w x.is in
      in_time_by s k i (suc a + b) t
      (omega (
        arith,
        not_late s k i b w f,
        shorter (s.period i) (s.jitter i) (k i) a b x.w w t y.low last
            (window_sub s k i p a b x.w w t y (window_some s k i ruled b w h) (window_some s k i ruled (suc a + b) t g)),
      ))

  none_later : (n q : ℕ) → q ≤ n → ((x : ℕ) → x ≤ q → Has s k i x) → Passed s k i q
  none_later zero q l has = let e : q ≡ 0 = omega arith in rw e (to 0 (omega arith))
  none_later (suc n) q l has = dite (dec_le q a) (λ h. to q h) (λ h. after (omega arith) (none_later n (q - suc a) (omega arith) (λ x g. has x (omega arith))))
    where
      after : a < q → Passed s k i (q - suc a) → Passed s k i q
      after h b =
          let e : suc a + (q - suc a) ≡ q = omega arith in
          let x = has q (omega arith) in
          record { w = x.0; is = x.1; in_time = rw e at (from (q - suc a) b.w x.0 b.is b.in_time (rw e x.1)) }

module _ (s : Tasks) (v : Valid s) (k k' : ℕ → ℕ) (i : ℕ) (l : i < s.count) (less : LessOwn k k' i) where
  windows : (q : ℕ) → window s k i q ≡ window s k' i q
  windows =
      window_same s s k k' i
      (record { loads = λ j g. refl; periods = λ j g. refl; keeps = less.above; ours = refl; turn = refl })

  bounds : (q : ℕ) → bound_at s k' i q ≤ℤ bound_at s k i q
  unfolding bound_at bound_of
  bounds q = go (window s k' i q) refl
    where
      go : (o : Option ℕ) → window s k' i q ≡ o → bound_at s k' i q ≤ℤ bound_at s k i q
      go none e = rw (bound_at, windows q, e) (≤ℤ_refl _)
      go (some w) e =
          rw (bound_at_lem s k' i q w e, bound_at_lem s k i q w (windows q ∙ e))
          (bound_order (s.period i) (s.jitter i) (k' i) (k i) q w w (omega (arith, less.own)))

  ends : (q w : ℕ) → is_last s k' i q w ≡ true → is_last s k i q w ≡ true
  unfolding is_last gap
  ends q w h = le-leb w (suc q * s.period i - k i) (omega (arith, less.own, leb-true w (suc q * s.period i - k' i) h))

  -- a q that is late with k' is late with k
  misses : (q : ℕ) → Missing s k' i q → Missing s k i q
  misses q m = record {
    w = m.w;
    is = windows q ∙ m.is;
    over = late_by s k i q m.w (omega (arith, less.own, is_late_lem s k' i q m.w m.over));
  }

  -- a q that the walk with k goes past is one that the walk with k' goes past
  goes_past : (q : ℕ) → stops s k i q ≡ false → stops s k' i q ≡ false
  unfolding gap
  goes_past q h =
      let p = goes_on s k i q h in
      let p' : Passed s k' i q = record {
        w = p.w;
        is = sym (windows q) ∙ p.is;
        in_time = in_time_by s k' i q p.w (omega (arith, less.own, not_late s k i q p.w p.in_time));
      } in
      over_goes s k' i q p' (omega (arith, less.own, goes_over s k i q p h))

  module _ (e : Ended s k i) (e' : Ended s k' i) where
    -- late with k': late with k. If the walk with k ended before, no q would be late
    late_stays : Missing s k' i e'.at → Missing s k i e.at
    late_stays m' = go (case_of s k i e.at)
      where
        before : e.at ≤ e'.at
        before = ends_by s k i e e'.at (missing_stops s k i e'.at (misses e'.at m'))

        has : (x : ℕ) → x ≤ e'.at → Has s k i x
        has x g =
            ⊎_elim
            (λ (h : x ≡ e'.at). rw h (m'.w, windows e'.at ∙ m'.is))
            (λ (h : x < e'.at). let p = goes_on s k' i x (e'.found.before x (omega arith) h) in (p.w, windows x ∙ p.is))
            (eq-or-lt_of_le g)

        go : Case s k i e.at → Missing s k i e.at
        go (beyond h) = let x = sym h ∙ (has e.at before).1 in let z : ◌≡◌ {A = ℕ} 0 1 = cc in absurd (omega arith)
        go (missing m) = m
        go (passing p) =
            not_both s k i e'.at
            (none_later s k i v.framed (above_periods s v i l) e.at (passed_to s k i e p)
            (stop_last s k i e.at (passed_to s k i e p e.at (omega arith)) e.found.holds) e'.at e'.at (omega arith) has)
            (misses e'.at m')

    -- horizon with k: horizon with k', at the same q
    horizon_stays : window s k i e.at ≡ none → window s k' i e'.at ≡ none
    horizon_stays h = rw same at (sym (windows e.at) ∙ h)
      where
        no_sooner : e.at ≤ e'.at
        no_sooner =
            le_by e.at e'.at
            (λ (g : e'.at < e.at). clash (stops s k' i e'.at) e'.found.holds (goes_past e'.at (e.found.before e'.at (omega arith) g)))

        same : e.at ≡ e'.at
        same = omega (arith, no_sooner, ends_by s k' i e' e.at (stops_none s k' i e.at (sym (windows e.at) ∙ h)))

    stages : stage (verdict s k i) ≤ stage (verdict s k' i)
    unfolding stage
    stages = go (case_of s k i e.at) (case_of s k' i e'.at)
      where
        go : Case s k i e.at → Case s k' i e'.at → stage (verdict s k i) ≤ stage (verdict s k' i)
        go (missing m) c = rw (says_late s k i e m) (omega arith)
        go (beyond h) c = rw (says_horizon s k i e h, says_horizon s k' i e' (horizon_stays h)) (omega arith)
        go (passing p) (beyond h) = rw (says_fits s k i e p, says_horizon s k' i e' h) (omega arith)
        go (passing p) (passing p') = rw (says_fits s k i e p, says_fits s k' i e' p') (omega arith)
        go (passing p) (missing m') = rw (says_late s k i e (late_stays m')) (omega arith)

pub less_own : LessOwnIsOrdered
less_own s v k k' i l less = record {
  windows = windows s v k k' i l less;
  bounds = bounds s v k k' i l less;
  ends = ends s v k k' i l less;
  stages =
      stages s v k k' i l less (ended s k i v.framed (v.in_range_lem i l).cost_low) (ended s k' i v.framed (v.in_range_lem i l).cost_low);
}
