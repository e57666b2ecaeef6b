-- One walk over q finds the least kept jitter of a task: laws of the walk.
use Prim.Native.Nat.{ℕ, suc, ◌+◌, ◌-◌, ◌*◌, ◌≤◌, ◌<◌, min}
use mathlib.Core.Path.{◌≡◌, refl, sym, ap, ◌∙◌}
use mathlib.Core.Logic.{⊎_elim, dite}
use mathlib.Core.Bool.{true, false}
use mathlib.Core.Option.{Option, some, none}
use mathlib.Core.List.{List}
use native.Mathlib.Omega.{arith}
use native.Mathlib.Decide.{dec_lt}
use native.Mathlib.Nat.{eq-or-lt_of_le, le_of_suc-le-suc, eq-zero-or-pos, zero-mul}
use borrow.Author.Tests.{le-leb, lt-leb, le-ltb, lt-ltb}
use lib.ListN.{length}
use lib.IntN.{pos}
use lib.Signed.{lt_z}
use Rattle.model.specs.Limits.{horizon_tick}
use Rattle.model.specs.Processor.{pickup}
use Rattle.model.specs.Tasks.{Tasks}
use Rattle.model.specs.Gap.{gap}
use Rattle.model.specs.Demand.{window}
use Rattle.model.specs.Bound.{bound}
use Rattle.model.specs.Verdict.{fits, is_late, is_last, stops, bound_of, bound_at, peak, verdict}
use Rattle.model.specs.Evaluations.{taken}
use Rattle.model.specs.Choice.{is_fits, worst_of, and_keep, least_keep}
use Rattle.model.proofs.SearchLaws.{first_none, first_is}
use Rattle.response.proofs.BoundLaws.{late_test, not_late}
use Rattle.response.specs.VerdictSays.{Passed}
use Rattle.response.proofs.VerdictLaws.{goes_on}
use Rattle.keeping.specs.Keeping.{next_high}
use Rattle.keeping.proofs.WorstPeakLaws.{bound_under, bound_equal, peak_is}
use Rattle.response.proofs.ChoiceLaws.{keep_own}
use Rattle.keeping.proofs.VerdictOfKeepLaws.{Passes, passes_on, horizon_at, late_at, fits_at, taken_at}

-- x = J − qP: max(0, −x), and max(0, x − K)
abbrev pub beyond : Tasks → ℕ → ℕ → ℕ
beyond s i q = q * s.period i - s.jitter i

abbrev pub ahead : Tasks → ℕ → ℕ → ℕ → ℕ
ahead s i K q = s.jitter i - (q * s.period i + K)

-- R where A was met, kept jitter A − D (or 0), x being qP
value_met : (A D J x w : ℕ) → A + x ≡ w + J → w + (J - (x + (A - D))) ≤ D + (x - J) → w + (J - (x + (A - D))) ≡ min A D + (x - J)
value_met A D J x w e h = omega arith

-- and at any other place
value_under : (A D J x w : ℕ) → w + J ≤ A + x → w + (J - (x + (A - D))) ≤ D + (x - J) → w + (J - (x + (A - D))) ≤ min A D + (x - J)
value_under A D J x w e h = omega arith

-- where A was met
pub record Met (P J : ℕ) (W : ℕ → Option ℕ) (q A : ℕ) : Type 0 where
  pub at : ℕ
  pub ticks : ℕ
  pub before : at < q
  pub is : W at ≡ some ticks
  pub value : A + at * P ≡ ticks + pickup + J

-- the walk has passed every q' below q, W being the windows of the task: A is the largest W(q') + pickup + J − q'P, and A − D (or 0) the least kept jitter so far
pub record Walked (s : Tasks) (above : List ℕ) (i : ℕ) (W : ℕ → Option ℕ) (q A : ℕ) : Type 0 where
  pub within : q ≤ horizon_tick
  pub reach : A ≤ s.deadline i + s.jitter i
  -- a smaller K does not fit
  pub smaller : (K : ℕ) → K < A - s.deadline i → is_fits (verdict s (and_keep above K) i) ≡ false
  -- and no other K has stopped
  pub passes : (K : ℕ) → A - s.deadline i ≤ K → Passes s (and_keep above K) i q
  pub highest : (x w : ℕ) → x < q → W x ≡ some w → w + pickup + s.jitter i ≤ A + x * s.period i
  pub met : (0 < q) → Met (s.period i) (s.jitter i) W q A
  pub first_zero : q ≡ 0 → A ≡ 0

-- W(q), and R(q) at kept jitter K is at most D
pub record Timely (s : Tasks) (i : ℕ) (W : ℕ → Option ℕ) (K q : ℕ) : Type 0 where
  pub ticks : ℕ
  pub is : W q ≡ some ticks
  pub in_time : ticks + pickup + ahead s i K q ≤ s.deadline i + beyond s i q

module _ (s : Tasks) (above : List ℕ) (i : ℕ) (W : ℕ → Option ℕ) (len : length above ≡ i) (same : (K q : ℕ) → window s (and_keep above K) i q ≡ W q) where
  -- before the first q
  pub walk_start : Walked s above i W 0 0
  walk_start = record {
    within = omega arith;
    reach = omega arith;
    smaller = λ K l. absurd (omega arith);
    passes = λ K l x h. absurd (omega arith);
    highest = λ x w l e. absurd (omega arith);
    met = λ l. absurd (omega arith);
    first_zero = λ e. refl;
  }

  -- R(q) > D and W(q) ≤ d_K(q + 1), as numbers
  late_yes : (K q w : ℕ) → s.deadline i + beyond s i q < w + pickup + ahead s i K q → is_late s (and_keep above K) i q w ≡ true
  late_yes K q w h = rw (late_test s (and_keep above K) i q w, keep_own above K i len) (lt-ltb _ _ h)

  late_no : (K q w : ℕ) → w + pickup + ahead s i K q ≤ s.deadline i + beyond s i q → is_late s (and_keep above K) i q w ≡ false
  late_no K q w h = rw (late_test s (and_keep above K) i q w, keep_own above K i len) (le-ltb _ _ h)

  last_yes : (K q w : ℕ) → K + w ≤ suc q * s.period i → is_last s (and_keep above K) i q w ≡ true
  unfolding is_last gap
  last_yes K q w h = rw (keep_own above K i len) (le-leb w _ (omega arith))

  last_no : (K q w : ℕ) → 1 ≤ w → suc q * s.period i < K + w → is_last s (and_keep above K) i q w ≡ false
  unfolding is_last gap
  last_no K q w p h = rw (keep_own above K i len) (lt-leb w _ (omega arith))

  timely_of : (K q : ℕ) → Passed s (and_keep above K) i q → Timely s i W K q
  timely_of K q p = record {
    ticks = p.w;
    is = sym (same K q) ∙ p.is;
    in_time = rw (keep_own above K i len) at (not_late s (and_keep above K) i q p.w p.in_time);
  }

  -- R at a q with a window
  bound_there : (K q w : ℕ) → W q ≡ some w → bound_at s (and_keep above K) i q ≡ bound (s.period i) (s.jitter i) K q w
  unfolding bound_at bound_of
  bound_there K q w e = rw (bound_at, same K q ∙ e, keep_own above K i len)

  module _ (q A : ℕ) (walked : Walked s above i W q A) where
    -- where there is no W(q), no K fits
    pub walk_none : W q ≡ none → least_keep s above i ≡ none
    unfolding least_keep is_fits
    walk_none e =
        first_none _ (suc (s.jitter i)) 0
        (λ K a b.
        dite (dec_lt K (A - s.deadline i)) (walked.smaller K)
        (λ l. ap is_fits (horizon_at s (and_keep above K) i q walked.within (walked.passes K (omega arith)) (same K q ∙ e))))

    module _ (w : ℕ) (is : W q ≡ some w) where
      is_late_lem : (K : ℕ) → A - s.deadline i ≤ K → s.deadline i + beyond s i q < w + pickup + ahead s i K q → is_fits (verdict s (and_keep above K) i) ≡ false
      unfolding is_fits
      is_late_lem K l h = ap is_fits (late_at s (and_keep above K) i q w (same K q ∙ is) walked.within (walked.passes K l) (late_yes K q w h))

      -- where W(q) + pickup + min(0, x) is over D, no K fits
      pub walk_over : s.deadline i + beyond s i q < w + pickup → least_keep s above i ≡ none
      unfolding least_keep
      walk_over h = first_none _ (suc (s.jitter i)) 0
          (λ K a b. dite (dec_lt K (A - s.deadline i)) (walked.smaller K) (λ l. is_late_lem K (omega arith) (omega arith)))

      module _ (N : ℕ) (next : N ≡ next_high (s.period i) (s.jitter i) A q w) (under : w + pickup ≤ s.deadline i + beyond s i q) where
        -- a K below the new least one is late at q, if not before
        smaller_next : (K : ℕ) → K < N - s.deadline i → is_fits (verdict s (and_keep above K) i) ≡ false
        smaller_next K h = dite (dec_lt K (A - s.deadline i)) (walked.smaller K) (λ l. is_late_lem K (omega arith) (omega arith))

        in_time : (K : ℕ) → N - s.deadline i ≤ K → is_late s (and_keep above K) i q w ≡ false
        in_time K h = late_no K q w (omega arith)

        highest_next : (x v : ℕ) → x < suc q → W x ≡ some v → v + pickup + s.jitter i ≤ N + x * s.period i
        highest_next x v l e = ⊎_elim here (λ m. omega (arith, walked.highest x v m e)) (eq-or-lt_of_le (le_of_suc-le-suc l))
          where
            here : x ≡ q → v + pickup + s.jitter i ≤ N + x * s.period i
            here d = let g : some v ≡ some w = sym e ∙ ap W d ∙ is in let f : v ≡ w = cc in rw (d, f) (omega arith)

        reach_next : N ≤ s.deadline i + s.jitter i
        reach_next = omega arith

        met_next : Met (s.period i) (s.jitter i) W (suc q) N
        met_next =
            ⊎_elim (λ z. let e : q * s.period i ≡ 0 = rw z (zero-mul (s.period i)) in here (omega (arith, walked.first_zero z)))
            (λ p. dite (dec_lt A (w + pickup + s.jitter i - q * s.period i)) (λ l. here (omega arith)) (λ l. there (walked.met p) (omega arith))) (eq-zero-or-pos q)
          where
            here : N + q * s.period i ≡ w + pickup + s.jitter i → Met (s.period i) (s.jitter i) W (suc q) N
            here e = record { at = q; ticks = w; before = omega arith; is = is; value = e }

            there : Met (s.period i) (s.jitter i) W q A → N ≡ A → Met (s.period i) (s.jitter i) W (suc q) N
            there m e = record { at = m.at; ticks = m.ticks; before = omega arith; is = m.is; value = omega arith }

        -- where the least K so far has not stopped at q, the walk goes on
        pub walk_next : suc q ≤ w → w ≤ horizon_tick → suc q * s.period i < N - s.deadline i + w → Walked s above i W (suc q) N
        walk_next long high h = record {
          within = omega arith;
          reach = reach_next;
          smaller = smaller_next;
          passes = passes_next;
          highest = highest_next;
          met = λ l. met_next;
          first_zero = λ e. absurd (omega arith);
        }
          where
            passes_next : (K : ℕ) → N - s.deadline i ≤ K → Passes s (and_keep above K) i (suc q)
            passes_next K l x m = ⊎_elim here (walked.passes K (omega arith) x) (eq-or-lt_of_le (le_of_suc-le-suc m))
              where
                here : x ≡ q → stops s (and_keep above K) i x ≡ false
                here d = rw d (passes_on s (and_keep above K) i q w (same K q ∙ is) (in_time K l) (last_no K q w (omega arith) (omega arith)))

        module _ (stop : N - s.deadline i + w ≤ suc q * s.period i) where
          fits_next
              : verdict s (and_keep above (N - s.deadline i)) i ≡ fits (peak (bound_at s (and_keep above (N - s.deadline i)) i) q).value
              (peak (bound_at s (and_keep above (N - s.deadline i)) i) q).at
          fits_next =
              let K = N - s.deadline i in
              fits_at s (and_keep above K) i q w (same K q ∙ is) walked.within (walked.passes K (omega arith)) (in_time K (omega arith)) (last_yes K q w stop)

          -- its verdict takes the q up to here
          pub walk_taken : taken s (and_keep above (N - s.deadline i)) i ≡ suc q
          walk_taken =
              let K = N - s.deadline i in
              taken_at s (and_keep above K) i q w (same K q ∙ is) walked.within (walked.passes K (omega arith)) (in_time K (omega arith)) (last_yes K q w stop)

          -- where it stops there, it is the choice
          pub walk_keep : least_keep s above i ≡ some (N - s.deadline i)
          unfolding least_keep is_fits
          walk_keep = first_is _ (suc (s.jitter i)) 0 (N - s.deadline i) (record {
            holds = ap is_fits fits_next;
            low = omega arith;
            high = omega (arith, reach_next);
            before = λ K a b. smaller_next K b;
          })

          timely : (x : ℕ) → x < suc q → Timely s i W (N - s.deadline i) x
          timely x l = ⊎_elim here there (eq-or-lt_of_le (le_of_suc-le-suc l))
            where
              here : x ≡ q → Timely s i W (N - s.deadline i) x
              here d = rw d (record { ticks = w; is = is; in_time = omega arith })

              there : x < q → Timely s i W (N - s.deadline i) x
              there m = timely_of (N - s.deadline i) x (goes_on s (and_keep above (N - s.deadline i)) i x (walked.passes (N - s.deadline i) (omega arith) x m))

          -- and its largest R is the smaller of A and D
          pub walk_worst : worst_of (verdict s (and_keep above (N - s.deadline i)) i) ≡ pos (min N (s.deadline i))
          unfolding worst_of
          walk_worst =
              ap worst_of fits_next ∙ peak_is (bound_at s (and_keep above (N - s.deadline i)) i) q (min N (s.deadline i)) met_next.at not_above
              (omega (arith, met_next.before)) met_there
            where
              not_above : (x : ℕ) → x ≤ q → lt_z (pos (min N (s.deadline i))) (bound_at s (and_keep above (N - s.deadline i)) i x) ≡ false
              not_above x l = go (timely x (omega arith))
                where
                  go : Timely s i W (N - s.deadline i) x → lt_z (pos (min N (s.deadline i))) (bound_at s (and_keep above (N - s.deadline i)) i x) ≡ false
                  go t =
                      ap (lt_z (pos (min N (s.deadline i)))) (bound_there (N - s.deadline i) x t.ticks t.is)
                      ∙ bound_under (s.period i) (s.jitter i) (N - s.deadline i) x t.ticks (min N (s.deadline i))
                      (value_under N (s.deadline i) (s.jitter i) (x * s.period i) (t.ticks + pickup) (highest_next x t.ticks (omega arith) t.is) t.in_time)

              met_there : bound_at s (and_keep above (N - s.deadline i)) i met_next.at ≡ pos (min N (s.deadline i))
              met_there = go met_next (timely met_next.at met_next.before)
                where
                  go : (m : Met (s.period i) (s.jitter i) W (suc q) N)
                      → Timely s i W (N - s.deadline i) m.at
                      → bound_at s (and_keep above (N - s.deadline i)) i m.at ≡ pos (min N (s.deadline i))
                  go m t =
                      let d : some t.ticks ≡ some m.ticks = sym t.is ∙ m.is in
                      let e : t.ticks ≡ m.ticks = cc in
                      bound_there (N - s.deadline i) m.at m.ticks m.is
                      ∙ bound_equal (s.period i) (s.jitter i) (N - s.deadline i) m.at m.ticks (min N (s.deadline i))
                      (value_met N (s.deadline i) (s.jitter i) (m.at * s.period i) (m.ticks + pickup) m.value (rw e at t.in_time))
