-- What a verdict says.
use Prim.Native.Nat.{ℕ, suc, ◌≤◌}
use mathlib.Core.Path.{◌≡◌, refl, sym, ◌∙◌}
use mathlib.Core.Bool.{Bool, true, false, ◌||◌}
use mathlib.Core.Option.{Option, some, none}
use native.Mathlib.Omega.{arith}
use native.Mathlib.Nat.{eq-or-lt_of_le}
use mathlib.Core.Logic.{⊎_elim}
use lib.IntN.{ℤ}
use borrow.Author.Tests.{leb-true}
use Rattle.model.specs.Search.{first}
use Rattle.model.specs.Limits.{horizon_tick}
use Rattle.model.specs.Tasks.{Tasks}
use Rattle.model.specs.Gap.{gap}
use Rattle.model.specs.Demand.{window}
use Rattle.model.specs.Verdict.{horizon, late, fits, bound_of, bound_at, peak, is_late, is_last, stops, judge, verdict}
use Rattle.model.proofs.SearchLaws.{Found, first_found, first_nothing}
use Rattle.model.proofs.FrameLaws.{Ruled}
use Rattle.response.proofs.WindowLaws.{Window, window_some, window_over}
use Rattle.response.specs.VerdictSays.{Missing, Passed, Walked}

-- the three cases of a q
pub data Case (s : Tasks) (k : ℕ → ℕ) (i q : ℕ) : Type 0 where
  beyond : window s k i q ≡ none → Case s k i q
  missing : Missing s k i q → Case s k i q
  passing : Passed s k i q → Case s k i q

module _ (s : Tasks) (k : ℕ → ℕ) (i : ℕ) where
  -- whether the walk stops at q, and what it says there
  pub stops_some : (q w : ℕ) → window s k i q ≡ some w → stops s k i q ≡ (is_late s k i q w || is_last s k i q w)
  unfolding stops
  stops_some q w h = rw (stops, h)

  pub stops_none : (q : ℕ) → window s k i q ≡ none → stops s k i q ≡ true
  unfolding stops
  stops_none q h = rw (stops, h)

  pub judge_none : (q : ℕ) → window s k i q ≡ none → judge s k i q ≡ horizon q
  unfolding judge
  judge_none q h = rw (judge, h)

  pub judge_late : (q w : ℕ) → window s k i q ≡ some w → is_late s k i q w ≡ true → judge s k i q ≡ late q (bound_of s k i q w)
  unfolding judge
  judge_late q w h e = rw (judge, h, e)

  pub judge_fits
      : (q w : ℕ) → window s k i q ≡ some w → is_late s k i q w ≡ false
      → judge s k i q ≡ fits (peak (bound_at s k i) q).value (peak (bound_at s k i) q).at
  unfolding judge
  judge_fits q w h e = rw (judge, h, e)

  -- every q has one of the cases
  pub case_of : (q : ℕ) → Case s k i q
  case_of q = go (window s k i q) refl
    where
      go : (o : Option ℕ) → window s k i q ≡ o → Case s k i q
      go none e = beyond e
      go (some w) e = test (is_late s k i q w) refl
        where
          test : (b : Bool) → is_late s k i q w ≡ b → Case s k i q
          test true f = missing (record { w = w; is = e; over = f })
          test false f = passing (record { w = w; is = e; in_time = f })

  -- the walk does not stop at q: q is passed
  pub goes_on : (q : ℕ) → stops s k i q ≡ false → Passed s k i q
  goes_on q h = go (case_of q)
    where
      go : Case s k i q → Passed s k i q
      go (beyond e) = let g : true ≡ false = sym (stops_none q e) ∙ h in let z : ◌≡◌ {A = ℕ} 0 1 = cc in absurd (omega arith)
      go (missing m) =
          let g : true ≡ false = sym (rw m.over at (stops_some q m.w m.is)) ∙ h in let z : ◌≡◌ {A = ℕ} 0 1 = cc in absurd (omega arith)
      go (passing p) = p

  -- the walk stops at q and says "fits": q is passed
  pub stop_fits : (q : ℕ) (r : ℤ) (n : ℕ) → judge s k i q ≡ fits r n → Passed s k i q
  stop_fits q r n j = go (case_of q)
    where
      go : Case s k i q → Passed s k i q
      go (beyond e) = let g : horizon q ≡ fits r n = sym (judge_none q e) ∙ j in let z : ◌≡◌ {A = ℕ} 0 1 = cc in absurd (omega arith)
      go (missing m) =
          let g : late q (bound_of s k i q m.w) ≡ fits r n = sym (judge_late q m.w m.is m.over) ∙ j in
          let z : ◌≡◌ {A = ℕ} 0 1 = cc in absurd (omega arith)
      go (passing p) = p

  -- it is passed and the walk stops there: W(q) is not over the next gap
  pub stop_last : (q : ℕ) (p : Passed s k i q) → stops s k i q ≡ true → p.w ≤ gap (s.period i) (k i) (suc q)
  unfolding is_last
  stop_last q p h = leb-true _ _ (sym (rw p.in_time at (stops_some q p.w p.is)) ∙ h)

  -- the walk stops at q and says "late": the q that it names is q, and is late
  pub stop_late : (q n : ℕ) (r : ℤ) → judge s k i q ≡ late n r → Missing s k i n
  stop_late q n r j = go (case_of q)
    where
      go : Case s k i q → Missing s k i n
      go (beyond e) = let g : horizon q ≡ late n r = sym (judge_none q e) ∙ j in let z : ◌≡◌ {A = ℕ} 0 1 = cc in absurd (omega arith)
      go (missing m) =
          let g : late q (bound_of s k i q m.w) ≡ late n r = sym (judge_late q m.w m.is m.over) ∙ j in
          let e : q ≡ n = cc in rw e at m
      go (passing p) =
          let g : fits (peak (bound_at s k i) q).value (peak (bound_at s k i) q).at ≡ late n r = sym (judge_fits q p.w p.is p.in_time) ∙ j in
          let z : ◌≡◌ {A = ℕ} 0 1 = cc in absurd (omega arith)

  -- the walk stops at q and says "horizon": the q that it names has no W(q)
  pub stop_horizon : (q n : ℕ) → judge s k i q ≡ horizon n → window s k i n ≡ none
  stop_horizon q n j = go (case_of q)
    where
      go : Case s k i q → window s k i n ≡ none
      go (beyond e) = let g : horizon q ≡ horizon n = sym (judge_none q e) ∙ j in let f : q ≡ n = cc in rw f at e
      go (missing m) =
          let g : late q (bound_of s k i q m.w) ≡ horizon n = sym (judge_late q m.w m.is m.over) ∙ j in
          let z : ◌≡◌ {A = ℕ} 0 1 = cc in absurd (omega arith)
      go (passing p) =
          let g : fits (peak (bound_at s k i) q).value (peak (bound_at s k i) q).at ≡ horizon n = sym (judge_fits q p.w p.is p.in_time) ∙ j in
          let z : ◌≡◌ {A = ℕ} 0 1 = cc in absurd (omega arith)

  -- the walk stops by q = H
  pub walk_stops : Ruled s.frame → 1 ≤ s.cost i → first (stops s k i) (suc horizon_tick) 0 ≡ none → ⊥
  walk_stops v e h = go (goes_on horizon_tick (first_nothing (stops s k i) (suc horizon_tick) 0 h horizon_tick (omega arith) (omega arith)))
    where
      go : Passed s k i horizon_tick → ⊥
      go p =
          let g : Window s k i horizon_tick p.w = window_some s k i v horizon_tick p.w p.is in
          omega (arith, window_over s k i v horizon_tick p.w (omega arith) p.is)

  -- the verdict is what is said at the q where the walk stops
  verdict_at : (o : Option ℕ) → first (stops s k i) (suc horizon_tick) 0 ≡ o → verdict s k i ≡ elim o [ none ↦ horizon (suc horizon_tick) | some q ↦ judge s k i q ]
  unfolding verdict
  verdict_at o h = rw (verdict, h)

  -- "fits": no q up to the end of the walk is late
  pub fits_says : (r : ℤ) (n : ℕ) → verdict s k i ≡ fits r n → Walked s k i
  unfolding gap
  fits_says r n h = go (first (stops s k i) (suc horizon_tick) 0) refl
    where
      go : (o : Option ℕ) → first (stops s k i) (suc horizon_tick) 0 ≡ o → Walked s k i
      go none e =
          let g : horizon (suc horizon_tick) ≡ fits r n = sym (verdict_at none e) ∙ h in let z : ◌≡◌ {A = ℕ} 0 1 = cc in absurd (omega arith)
      go (some q) e = found (first_found (stops s k i) (suc horizon_tick) 0 q e) (stop_fits q r n (sym (verdict_at (some q) e) ∙ h))
        where
          found : Found (stops s k i) (suc horizon_tick) 0 q → Passed s k i q → Walked s k i
          found f p = record {
            last = q;
            passed = λ m a. ⊎_elim (λ g. rw g p) (λ g. goes_on m (f.before m (omega arith) g)) (eq-or-lt_of_le a);
            ends = λ w g. let e' : some p.w ≡ some w = sym p.is ∙ g in let u : p.w ≡ w = cc in omega (arith, stop_last q p f.holds);
          }

  -- and its worst value is the largest R up to that end
  pub fits_peak : (r : ℤ) (n : ℕ) → verdict s k i ≡ fits r n → (q : ℕ) × ((peak (bound_at s k i) q).value ≡ r)
  fits_peak r n h = go (first (stops s k i) (suc horizon_tick) 0) refl
    where
      go : (o : Option ℕ) → first (stops s k i) (suc horizon_tick) 0 ≡ o → (q : ℕ) × ((peak (bound_at s k i) q).value ≡ r)
      go none e =
          let g : horizon (suc horizon_tick) ≡ fits r n = sym (verdict_at none e) ∙ h in let z : ◌≡◌ {A = ℕ} 0 1 = cc in absurd (omega arith)
      go (some q) e = at (stop_fits q r n (sym (verdict_at (some q) e) ∙ h))
        where
          at : Passed s k i q → (m : ℕ) × ((peak (bound_at s k i) m).value ≡ r)
          at p =
              let g : fits (peak (bound_at s k i) q).value (peak (bound_at s k i) q).at ≡ fits r n =
              sym (judge_fits q p.w p.is p.in_time) ∙ sym (verdict_at (some q) e) ∙ h in
              (q, cc)

  -- "late": the q named is late
  pub late_says : (q : ℕ) (r : ℤ) → verdict s k i ≡ late q r → Missing s k i q
  late_says q r h = go (first (stops s k i) (suc horizon_tick) 0) refl
    where
      go : (o : Option ℕ) → first (stops s k i) (suc horizon_tick) 0 ≡ o → Missing s k i q
      go none e =
          let g : horizon (suc horizon_tick) ≡ late q r = sym (verdict_at none e) ∙ h in let z : ◌≡◌ {A = ℕ} 0 1 = cc in absurd (omega arith)
      go (some n) e = stop_late n q r (sym (verdict_at (some n) e) ∙ h)

  -- "horizon": there is no W(q) up to H for the q named
  pub horizon_says : Ruled s.frame → 1 ≤ s.cost i → (q : ℕ) → verdict s k i ≡ horizon q → window s k i q ≡ none
  horizon_says v c q h = go (first (stops s k i) (suc horizon_tick) 0) refl
    where
      go : (o : Option ℕ) → first (stops s k i) (suc horizon_tick) 0 ≡ o → window s k i q ≡ none
      go none e = absurd (walk_stops v c e)
      go (some n) e = stop_horizon n q (sym (verdict_at (some n) e) ∙ h)
