-- The search for W(q) of a task looks at the loads of the task and of those above it, and at periods and kept jitters of those above; its verdict also at the task's own
-- period, kept jitter, jitter and deadline; and both at nothing else.
use Prim.Native.Nat.{ℕ, zero, suc, ◌+◌, ◌*◌, ◌≤◌, ◌<◌}
use mathlib.Core.Path.{◌≡◌, refl, ap, ◌∙◌, fun_ext}
use mathlib.Core.Bool.{true, false, ◌||◌}
use mathlib.Core.Option.{Option, some, none}
use native.Mathlib.Omega.{arith}
use lib.IntN.{pos}
use lib.Signed.{lt_z}
use lib.Dec.{leb, ltb, eqb}
use lib.ListN.{length}
use Rattle.model.specs.Search.{first}
use Rattle.model.specs.Series.{sum, table}
use Rattle.model.specs.Limits.{horizon_tick}
use Rattle.model.specs.Frame.{Frame, supply}
use Rattle.model.specs.Tasks.{Tasks, load, board_of}
use Rattle.model.specs.Arrival.{arrivals}
use Rattle.model.specs.Gap.{gap}
use Rattle.model.specs.Demand.{above_load, demand, meets, window_from, largest, window}
use Rattle.model.specs.Bound.{bound}
use Rattle.model.specs.Verdict.{horizon, late, fits, bound_of, bound_at, peak, is_late, is_last, stops, judge, verdict}
use Rattle.model.specs.Evaluations.{tried_at, ends_at, tried, taken, counted_at, evaluations, judged}
use Rattle.model.specs.SameTasks.{SameFrame}
use Rattle.model.proofs.SeriesLaws.{sum_eq}
use Rattle.model.proofs.FrameLaws.{ours_same, turn_same, frame_itself}

-- two task sets with kept jitters that the search for W(q) of task i does not tell apart
pub record SameAbove (s s' : Tasks) (k k' : ℕ → ℕ) (i : ℕ) : Type 0 where
  pub loads : (j : ℕ) → j ≤ i → load s j ≡ load s' j
  pub periods : (j : ℕ) → j < i → s.period j ≡ s'.period j
  pub keeps : (j : ℕ) → j < i → k j ≡ k' j
  pub ours : (board_of s).ours ≡ (board_of s').ours
  pub turn : (board_of s).turn ≡ (board_of s').turn

module _ (s s' : Tasks) (k k' : ℕ → ℕ) (i : ℕ) (same : SameAbove s s' k k' i) where
  above_same : (t : ℕ) → above_load s k i t ≡ above_load s' k' i t
  unfolding above_load
  above_same t =
      sum_eq _ _ i (λ j h. λ x. same.loads j (omega arith) x * arrivals (same.periods j h x) (same.keeps j h x) t)

  demand_same : (q t : ℕ) → demand s k i q t ≡ demand s' k' i q t
  unfolding demand
  demand_same q t = λ x. suc q * same.loads i (omega arith) x + above_same t x

  -- equal W(q)
  pub window_same : (q : ℕ) → window s k i q ≡ window s' k' i q
  unfolding window window_from meets
  window_same q = λ x. largest (λ u. first (λ t. leb (demand_same q t x) (supply (same.ours x) u t)) horizon_tick 1) (same.turn x)

  once_same : sum (load s) i ≡ sum (load s') i
  once_same = sum_eq _ _ i (λ j h. same.loads j (omega arith))

  tried_at_same : (q m : ℕ) → tried_at s k i q m ≡ tried_at s' k' i q m
  unfolding tried_at
  tried_at_same q zero = λ x. suc q * same.loads i (omega arith) x + once_same x
  tried_at_same q (suc m) = ap (demand s k i q) (tried_at_same q m) ∙ demand_same q (tried_at s' k' i q m)

  ends_same : (q m : ℕ) → ends_at s k i q m ≡ ends_at s' k' i q m
  unfolding ends_at
  ends_same q m = λ x. eqb (tried_at_same q (suc m) x) (tried_at_same q m x) || ltb horizon_tick (tried_at_same q m x)

  -- equal lists of t
  pub tried_same : (q : ℕ) → tried s k i q ≡ tried s' k' i q
  unfolding tried
  tried_same q = λ x.
      table (λ m. tried_at_same q m x) (elim (first (λ m. ends_same q m x) (suc horizon_tick) 0) [ none ↦ suc horizon_tick | some m ↦ suc m ])

-- two task sets with kept jitters whose task i has the same W(q), period, kept jitter, jitter and deadline
pub record SameWindows (s s' : Tasks) (k k' : ℕ → ℕ) (i : ℕ) : Type 0 where
  pub windows : (q : ℕ) → window s k i q ≡ window s' k' i q
  pub period : s.period i ≡ s'.period i
  pub keep : k i ≡ k' i
  pub jitter : s.jitter i ≡ s'.jitter i
  pub deadline : s.deadline i ≡ s'.deadline i

module _ (s s' : Tasks) (k k' : ℕ → ℕ) (i : ℕ) (same : SameWindows s s' k k' i) where
  stops_same : (q : ℕ) → stops s k i q ≡ stops s' k' i q
  unfolding stops is_late is_last bound_of
  stops_same q = λ x.
      elim (same.windows q x) [
        | none ↦ true
        | some w ↦ lt_z (pos (same.deadline x)) (bound (same.period x) (same.jitter x) (same.keep x) q w) || leb w (gap (same.period x) (same.keep x) (suc q))
      ]

  at_same : (q : ℕ) → bound_at s k i q ≡ bound_at s' k' i q
  unfolding bound_at bound_of
  at_same q = λ x. elim (same.windows q x) [ none ↦ pos 0 | some w ↦ bound (same.period x) (same.jitter x) (same.keep x) q w ]

  judge_same : (q : ℕ) → judge s k i q ≡ judge s' k' i q
  unfolding judge is_late bound_of
  judge_same q = λ x.
      elim (same.windows q x) [
        | none ↦ horizon q
        | some w ↦
            elim (lt_z (pos (same.deadline x)) (bound (same.period x) (same.jitter x) (same.keep x) q w)) [
              | true ↦ late q (bound (same.period x) (same.jitter x) (same.keep x) q w)
              | false ↦ fits (peak (fun_ext at_same x) q).value (peak (fun_ext at_same x) q).at
            ]
      ]

  -- the same verdict
  pub verdict_by : verdict s k i ≡ verdict s' k' i
  unfolding verdict
  verdict_by = λ x.
      elim (first (λ q. stops_same q x) (suc horizon_tick) 0) [ none ↦ horizon (suc horizon_tick) | some q ↦ judge_same q x ]

  -- of as many q
  pub taken_by : taken s k i ≡ taken s' k' i
  unfolding taken
  taken_by = λ x. elim (first (λ q. stops_same q x) (suc horizon_tick) 0) [ none ↦ suc horizon_tick | some q ↦ suc q ]

-- two task sets with kept jitters that the verdict of task i does not tell apart
pub record Same (s s' : Tasks) (k k' : ℕ → ℕ) (i : ℕ) : Type 0 where
  pub loads : (j : ℕ) → j ≤ i → load s j ≡ load s' j
  pub periods : (j : ℕ) → j ≤ i → s.period j ≡ s'.period j
  pub keeps : (j : ℕ) → j ≤ i → k j ≡ k' j
  pub jitter : s.jitter i ≡ s'.jitter i
  pub deadline : s.deadline i ≡ s'.deadline i
  pub frame : SameFrame s.frame s'.frame

-- a number for each sheet that is 0 with a frame
pub unframed_same : (o p : Option Frame) → SameFrame o p → (a b : ℕ) → a ≡ b
    → ◌≡◌ {A = ℕ} (elim o [ none ↦ a | some f ↦ 0 ]) (elim p [ none ↦ b | some f ↦ 0 ])
unframed_same none none h a b e = e
unframed_same none (some g) h a b e = absurd h
unframed_same (some f) none h a b e = absurd h
unframed_same (some f) (some g) h a b e = refl

module _ (s s' : Tasks) (k k' : ℕ → ℕ) (i : ℕ) (same : Same s s' k k' i) where
  same_above : SameAbove s s' k k' i
  same_above = record {
    loads = same.loads;
    periods = λ j l. same.periods j (omega arith);
    keeps = λ j l. same.keeps j (omega arith);
    ours = ours_same s.frame s'.frame same.frame;
    turn = turn_same s.frame s'.frame same.frame;
  }

  same_windows : SameWindows s s' k k' i
  same_windows = record {
    windows = window_same s s' k k' i same_above;
    period = same.periods i (omega arith);
    keep = same.keeps i (omega arith);
    jitter = same.jitter;
    deadline = same.deadline;
  }

  -- equal verdicts
  pub verdict_same : verdict s k i ≡ verdict s' k' i
  verdict_same = verdict_by s s' k k' i same_windows

  counted_same : (q : ℕ) → counted_at s k i q ≡ counted_at s' k' i q
  unfolding counted_at
  counted_same q = unframed_same s.frame s'.frame same.frame _ _ (ap length (tried_same s s' k k' i same_above q))

  -- equal numbers of evaluations
  pub evaluations_same : evaluations s k i ≡ evaluations s' k' i
  unfolding evaluations
  evaluations_same = λ x. sum (λ q. counted_same q x) (taken_by s s' k k' i same_windows x)

  -- equal answers of the call
  pub judged_same : judged s k i ≡ judged s' k' i
  judged_same = λ x. record { says = verdict_same x; evaluations = evaluations_same x }

-- the same sheet with kept jitters that agree down to task i
module _ (s : Tasks) (k k' : ℕ → ℕ) (i : ℕ) (agree : (j : ℕ) → j ≤ i → k j ≡ k' j) where
  kept_same : Same s s k k' i
  kept_same = record { loads = λ j l. refl; periods = λ j l. refl; keeps = agree; jitter = refl; deadline = refl; frame = frame_itself s.frame }

  pub verdict_kept : verdict s k i ≡ verdict s k' i
  verdict_kept = verdict_same s s k k' i kept_same

  pub evaluations_kept : evaluations s k i ≡ evaluations s k' i
  evaluations_kept = evaluations_same s s k k' i kept_same
