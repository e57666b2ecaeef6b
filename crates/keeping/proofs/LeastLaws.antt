-- The walk over q that finds the least kept jitter of a task, over the columns that the code looks at.
use Rattle.std.specs.Prelude as std
use Prim.Native.Nat.{ℕ, suc, ◌+◌, ◌-◌, ◌*◌, ◌≤◌, ◌<◌, min}
use mathlib.Core.Path.{◌≡◌, refl, sym, ap, ◌∙◌}
use mathlib.Core.Logic.{dite}
use mathlib.Core.Option.{Option, none}
use mathlib.Core.List.{List}
use native.Mathlib.Omega.{arith}
use native.Mathlib.Nat.{add-zero}
use native.Mathlib.Decide.{dec_lt}
use native.Mathlib.Numerals.{add-one}
use lib.ListN.{length, take, length-take}
use lib.Seq.{get_or-take}
use Rattle.model.specs.Series.{sum}
use Rattle.model.specs.Limits.{horizon_tick}
use Rattle.model.specs.Processor.{pickup}
use Rattle.model.specs.Frame.{Frame}
use Rattle.model.specs.Tasks.{Tasks}
use Rattle.model.specs.Gap.{gap}
use Rattle.model.specs.Demand.{window}
use Rattle.model.specs.Evaluations.{taken, counted_at, evaluations}
use Rattle.model.specs.Choice.{column, and_keep}
use Rattle.model.proofs.SeriesLaws.{sum_eq}
use Rattle.model.proofs.FrameLaws.{Ruled, ours_same, turn_same}
use Rattle.model.proofs.SameVerdict.{unframed_same, SameAbove, window_same, tried_same}
use Rattle.response.proofs.WindowLaws.{Window, window_some, window_over}
use Rattle.demand.specs.Columns.{IsOnce}
use Rattle.keeping.specs.declared.Step.{Step}
use Rattle.keeping.specs.declared.Step.TheVariants.{Stops, Fails, Next}
use Rattle.keeping.specs.Keeping.{flat, Searched, WithinIs, kept_at, Flat, Walkable, LeastOf, next_high, step_of, Stepped}
use Rattle.keeping.proofs.ChoiceStepLaws.{step_over, step_keep, step_next, gap_over, gap_under}
use Rattle.response.proofs.ChoiceLaws.{keep_above}
use Rattle.keeping.proofs.ChoiceWalkLaws.{Walked, walk_start, walk_none, walk_over, walk_next, walk_taken, walk_keep, walk_worst}

-- W(q) of task i, from the columns
abbrev pub window_at : Option Frame → List ℕ → List ℕ → List ℕ → ℕ → ℕ → Option ℕ
window_at o loads periods keeps i q = window (flat o loads periods) (column keeps) i q

-- how many t count for the first q, added up
abbrev pub counted_below : Option Frame → List ℕ → List ℕ → List ℕ → ℕ → ℕ → ℕ
counted_below o loads periods keeps i q = sum (counted_at (flat o loads periods) (column keeps) i) q

-- the walk of task i has come to q; high is the largest W(q') + J − q'P of the q' before, n the evaluations that they took
pub record Walking (o : Option Frame) (loads periods keeps : List ℕ) (i J D q high n : ℕ) : Type 0 where
  pub ruled : Ruled o
  pub may : Walkable loads periods keeps i J D
  pub walked : (s : Tasks) → Flat s o loads periods i J D → Walked s (take i keeps) i (window_at o loads periods keeps i) q high
  pub q_high : q ≤ horizon_tick
  pub reach : high ≤ D + J
  pub counted : n ≡ counted_below o loads periods keeps i q
  pub few : n ≤ q * 10000001

-- what a step leaves, n being the evaluations up to q: the answer, or the walk at the next q
abbrev pub Stepping : Option Frame → List ℕ → List ℕ → List ℕ → ℕ → ℕ → ℕ → ℕ → ℕ → Step → Type 0
Stepping o loads periods keeps i J D q n (Stops K w) = LeastOf o loads periods keeps i J D (kept_at K w q n)
Stepping o loads periods keeps i J D q n Fails = LeastOf o loads periods keeps i J D std.None
Stepping o loads periods keeps i J D q n (Next high) = Walking o loads periods keeps i J D (q + 1) high n

module _ (o : Option Frame) (loads periods keeps : List ℕ) (i J D : ℕ) (ruled : Ruled o) (may : Walkable loads periods keeps i J D) where
  above_long : length (take i keeps) ≡ i
  above_long = simp length-take (omega (arith, may.columns.above.keeps_long))

  -- the search for W(q) does not tell such a task set from the columns, whatever the task's own K
  above : (s : Tasks) → Flat s o loads periods i J D → (K : ℕ) → SameAbove s (flat o loads periods) (and_keep (take i keeps) K) (column keeps) i
  above s f K = record {
    loads = λ m l. f.load_is m l ∙ sym (add-zero (column loads m));
    periods = λ m l. f.period_is m (omega arith);
    keeps = λ m l. keep_above (take i keeps) K m (omega (arith, above_long)) ∙ get_or-take i keeps m 0 l;
    ours = sym (ours_same o s.frame f.frame_is);
    turn = sym (turn_same o s.frame f.frame_is);
  }

  same : (s : Tasks) → Flat s o loads periods i J D → (K q : ℕ) → window s (and_keep (take i keeps) K) i q ≡ window_at o loads periods keeps i q
  same s f K q = window_same s (flat o loads periods) (and_keep (take i keeps) K) (column keeps) i (above s f K) q

  -- how many t count for one q
  counted_there
      : (s : Tasks) → Flat s o loads periods i J D → (K q : ℕ)
      → counted_at s (and_keep (take i keeps) K) i q ≡ counted_at (flat o loads periods) (column keeps) i q
  unfolding counted_at
  counted_there s f K q =
      sym
      (unframed_same o s.frame f.frame_is _ _
      (sym (ap length (tried_same s (flat o loads periods) (and_keep (take i keeps) K) (column keeps) i (above s f K) q))))

  -- the evaluations of a verdict that takes q + 1 values of q
  evaluations_at
      : (s : Tasks) → Flat s o loads periods i J D → (K q : ℕ) → taken s (and_keep (take i keeps) K) i ≡ suc q
      → evaluations s (and_keep (take i keeps) K) i ≡ counted_below o loads periods keeps i (suc q)
  unfolding evaluations
  evaluations_at s f K q e =
      rw (evaluations, e)
      (sum_eq _ _ (suc q) (λ x l. counted_there s f K x))

  pub walking_start : Walking o loads periods keeps i J D 0 0 0
  unfolding sum
  walking_start = record {
    ruled = ruled;
    may = may;
    walked = λ s f. walk_start s (take i keeps) i (window_at o loads periods keeps i) above_long (same s f);
    q_high = omega arith;
    reach = omega arith;
    counted = refl;
    few = omega arith;
  }

  module _ (q high n : ℕ) (g : Walking o loads periods keeps i J D q high n) where
    -- the search for W(q) may start
    pub searched : (once : ℕ) → IsOnce loads i once → Searched loads periods keeps i once q
    searched once o = record { columns = may.columns; once_is = o; q_high = g.q_high }

    -- W(q) over H, or none
    pub walking_none : window_at o loads periods keeps i q ≡ none → LeastOf o loads periods keeps i J D std.None
    walking_none e s f =
        walk_none s (take i keeps) i (window_at o loads periods keeps i) above_long (same s f) q high (g.walked s f) e

    module _ (w m : ℕ) (found : WithinIs o loads periods keeps i q w m) where
      facts : Window (flat o loads periods) (column keeps) i q w
      facts = window_some (flat o loads periods) (column keeps) i ruled q w found.is

      long : q < w
      long = window_over (flat o loads periods) (column keeps) i ruled q w (omega (arith, may.own.cost_low)) found.is

      -- the evaluations with those of q
      counted_next : n + m ≡ counted_below o loads periods keeps i (suc q)
      unfolding sum
      counted_next = omega (arith, g.counted, found.counted)

      few_next : n + m ≤ (q + 1) * 10000001
      few_next = omega (arith, g.few, found.small)

      pub stepped : Stepped (column periods i) J D high q w
      stepped = record {
        period_high = may.own.period_high;
        jitter_high = may.own.jitter_high;
        deadline_high = may.own.deadline_high;
        reach = g.reach;
        q_high = g.q_high;
        w_high = facts.high;
      }

      -- W(q) + pickup + min(0, x) > D
      over : D + (q * column periods i - J) < w + pickup → LeastOf o loads periods keeps i J D std.None
      over h s f =
          walk_over s (take i keeps) i (window_at o loads periods keeps i) above_long (same s f) q high (g.walked s f) w found.is
          (rw (f.jitter_is, f.deadline_is, f.period_is i (omega arith)) h)

      module _ (under : w + pickup ≤ D + (q * column periods i - J)) where
        -- the numbers of a task set with these columns
        abbrev N : ℕ
        N = next_high (column periods i) J high q w

        next_of_lem : (s : Tasks) → Flat s o loads periods i J D → N ≡ next_high (s.period i) (s.jitter i) high q w
        next_of_lem s f = rw (f.jitter_is, f.period_is i (omega arith))

        under_of : (s : Tasks) → Flat s o loads periods i J D → w + pickup ≤ s.deadline i + (q * s.period i - s.jitter i)
        under_of s f = rw (f.jitter_is, f.deadline_is, f.period_is i (omega arith)) under

        -- the least K so far stops here
        keeps_it : N - D + w ≤ q * column periods i + column periods i → LeastOf o loads periods keeps i J D (kept_at (N - D) (min N D) q (n + m))
        keeps_it h s f = rw (← f.deadline_is) (record {
          least =
              walk_keep s (take i keeps) i (window_at o loads periods keeps i) above_long (same s f) q high (g.walked s f) w found.is N
              (next_of_lem s f) (under_of s f) stop;
          worst =
              walk_worst s (take i keeps) i (window_at o loads periods keeps i) above_long (same s f) q high (g.walked s f) w found.is N
              (next_of_lem s f) (under_of s f) stop;
          last = taken_here;
          counted = evaluations_at s f (N - s.deadline i) q taken_here ∙ sym counted_next;
          small = omega (arith, few_next, g.q_high);
        })
          where
            stop : N - s.deadline i + w ≤ suc q * s.period i
            stop = rw (f.deadline_is, f.period_is i (omega arith)) (omega arith)

            taken_here : taken s (and_keep (take i keeps) (N - s.deadline i)) i ≡ suc q
            taken_here =
                walk_taken s (take i keeps) i (window_at o loads periods keeps i) above_long (same s f) q high (g.walked s f) w found.is N
                (next_of_lem s f) (under_of s f) stop

        -- it does not
        goes : q * column periods i + column periods i < N - D + w → Walking o loads periods keeps i J D (q + 1) N (n + m)
        goes h = record {
          ruled = ruled;
          may = may;
          walked = walked_next;
          q_high = omega (arith, long, facts.high);
          reach = omega (arith, g.reach);
          counted = rw add-one counted_next;
          few = few_next;
        }
          where
            walked_next : (s : Tasks) → Flat s o loads periods i J D → Walked s (take i keeps) i (window_at o loads periods keeps i) (q + 1) N
            walked_next s f = rw (add-one q)
                (walk_next s (take i keeps) i (window_at o loads periods keeps i) above_long (same s f) q high (g.walked s f) w found.is N
                (next_of_lem s f) (under_of s f) long facts.high
                (rw (f.deadline_is, f.period_is i (omega arith)) (omega arith)))

      -- one step of the walk
      pub walking_step : (r : Step) → r ≡ step_of (column periods i) J D high q w → Stepping o loads periods keeps i J D q (n + m) r
      walking_step r e = rw e
          (dite (dec_lt (D + (q * column periods i - J)) (w + pickup))
          (λ l. rw (← step_over _ _ _ high q w l) (over l))
          (λ l. inside (omega arith)))
        where
          inside : w + pickup ≤ D + (q * column periods i - J) → Stepping o loads periods keeps i J D q (n + m) (step_of (column periods i) J D high q w)
          inside u =
              dite (dec_lt (gap (column periods i) (N u - D) (q + 1)) w)
              (λ l. rw (← step_next _ _ _ high q w u (N u) refl l) (goes u (gap_under (column periods i) (N u - D) q w l)))
              (λ l.
              rw (← step_keep _ _ _ high q w u (N u) _ _ refl refl refl (omega arith))
              (keeps_it u (gap_over (column periods i) (N u - D) q w facts.low (omega arith))))
