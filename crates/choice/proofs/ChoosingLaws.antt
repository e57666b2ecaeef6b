-- The loop over the tasks that makes the choice.
use Rattle.std.specs.Prelude as std
use Prim.Native.Nat.{ℕ, suc, ◌+◌, ◌*◌, ◌≤◌, ◌<◌}
use mathlib.Core.Path.{◌≡◌, refl, sym, ap, ◌∙◌}
use mathlib.Core.Logic.{dite}
use mathlib.Core.Bool.{Bool}
use mathlib.Core.Option.{Option}
use mathlib.Core.List.{List, [], ◌∷◌, map, map-append}
use native.Mathlib.Omega.{arith}
use native.Mathlib.Decide.{dec_lt}
use native.Mathlib.Numerals.{add-one}
use borrow.Author.Tests.{le-leb, lt-leb}
use lib.ListN.{length, take, set, replicate, length-set, get_or-replicate}
use lib.Seq.{take-suc-set, get_or-take, get_or-set_same, get_or-set_other}
use lib.IntN.{pos}
use Rattle.model.specs.Series.{sum}
use Rattle.model.specs.Limits.{max_tasks, max_time}
use Rattle.model.specs.Frame.{Frame}
use Rattle.model.specs.Tasks.{with_frame, InRange, Valid, load}
use Rattle.model.specs.SameTasks.{SameFrame}
use Rattle.model.specs.Choice.{column, and_keep, unfit, chosen, choice_of}
use Rattle.model.proofs.SeriesLaws.{sum_eq}
use Rattle.model.proofs.FrameLaws.{frame_itself}
use Rattle.model.proofs.ChargeLaws.{absorbed_valid}
use Rattle.taskset.specs.declared.TaskSet.{TaskSet}
use Rattle.taskset.specs.TaskSet.{view_of}
use Rattle.demand.specs.Columns.{Small, Copied}
use Rattle.keeping.specs.Keeping.{kept_at, Flat, Walkable}
use Rattle.choice.specs.declared.Extent.{Extent}
use Rattle.choice.specs.Choices.{extent_in, spares, KeepOf, evaluations_for, choice_in, ChoicesAre}
use Rattle.choice.proofs.NextChoiceLaws.{choice_start, next_keep, next_unfit, unfit_stays, judged_unspared, for_kept, NextIs, found_keep, found_none}

-- a slot set, and those past it kept
past_next : (l : List ℕ) (i v : ℕ) → ((m : ℕ) → i ≤ m → m < max_tasks → column l m ≡ 0) → (m : ℕ) → i + 1 ≤ m → m < max_tasks → column (set l i v) m ≡ 0
past_next l i v g m k h = get_or-set_other l i m v 0 (λ e. omega arith) ∙ g m (omega arith) h

-- the choice of the tasks above i is made, x saying which tasks it judges, with n evaluations; so it is on the sheet with any frame like o
pub record Choosing (x : Extent) (s : TaskSet) (o : Option Frame) (loads periods keep worst : List ℕ) (n i : ℕ) : Type 0 where
  pub valid : Valid (view_of s)
  pub within : i ≤ s.count
  pub copied : Copied s s.count loads periods
  pub keep_long : length keep ≡ max_tasks
  pub worst_long : length worst ≡ max_tasks
  pub kept_small : (m : ℕ) → m < i → column keep m ≤ max_time
  pub so_far : (p : Option Frame) → SameFrame o p → choice_of (extent_in x) (with_frame p (view_of s)) i ≡ chosen (take i keep) (map pos (take i worst))
  pub keep_past : (m : ℕ) → i ≤ m → m < max_tasks → column keep m ≡ 0
  pub worst_past : (m : ℕ) → i ≤ m → m < max_tasks → column worst m ≡ 0
  pub counted : (p : Option Frame) → SameFrame o p → n ≡ sum (λ j. evaluations_for (extent_in x) (with_frame p (view_of s)) (column keep) j) i
  pub few : n ≤ i * 100000020000001

module _ (x : Extent) (s : TaskSet) (o : Option Frame) (loads periods : List ℕ) where
  pub choosing_none : Valid (view_of s) → Copied s s.count loads periods → Choosing x s o loads periods (replicate max_tasks 0) (replicate max_tasks 0) 0 0
  unfolding sum
  choosing_none v c = record {
    valid = v;
    within = omega arith;
    copied = c;
    keep_long = refl;
    worst_long = refl;
    kept_small = λ m l. absurd (omega arith);
    so_far = λ p e. choice_start (extent_in x) (with_frame p (view_of s));
    keep_past = λ m l h. get_or-replicate max_tasks m 0 0 h;
    worst_past = λ m l h. get_or-replicate max_tasks m 0 0 h;
    counted = λ p e. refl;
    few = omega arith;
  }

  module _ (keep worst : List ℕ) (n i : ℕ) (f : Choosing x s o loads periods keep worst n i) where
    module _ (l : i < s.count) where
      small : (m : ℕ) → m < i → Small (column loads m) (column periods m) (column keep m)
      small m h =
          let r = f.valid.in_range_lem m (omega arith) in
          let g = f.valid.carried m (omega arith) in
          let e = f.copied.of_loads.each m (omega arith) in
          let d = f.copied.of_periods.each m (omega arith) in
          record {
            load_high = omega (arith, g.load_period, r.period_high);
            period_low = omega (arith, r.period_low);
            period_high = omega (arith, r.period_high);
            keep_high = f.kept_small m h;
          }

      -- the walk of task i may start
      pub choosing_walk : Walkable loads periods keep i ((view_of s).jitter i) ((view_of s).deadline i)
      choosing_walk = record {
        columns =
            record {
              above =
                  record {
                    few = omega (arith, f.valid.few_tasks);
                    loads_long = omega (arith, f.valid.few_tasks, f.copied.of_loads.long);
                    periods_long = omega (arith, f.valid.few_tasks, f.copied.of_periods.long);
                    keeps_long = omega (arith, f.valid.few_tasks, f.keep_long);
                    small = small;
                  };
              loads_long = omega (arith, f.valid.few_tasks, f.copied.of_loads.long);
              cost_low = omega (arith, own_load, own_range.cost_low);
              cost_high = omega (arith, own_load, own_range.cost_period, own_range.period_high);
            };
        periods_long = omega (arith, f.valid.few_tasks, f.copied.of_periods.long);
        own = rw (f.copied.of_loads.each i l, f.copied.of_periods.each i l) own_range;
      }
        where
          own_range : InRange ((view_of s).period i) ((view_of s).jitter i) (load (view_of s) i) ((view_of s).deadline i)
          own_range = (absorbed_valid (view_of s) f.valid).in_range_lem i l

          own_load : column loads i ≡ load (view_of s) i
          own_load = f.copied.of_loads.each i l

      flat_view : (p : Option Frame) → SameFrame o p → Flat (with_frame p (view_of s)) o loads periods i ((view_of s).jitter i) ((view_of s).deadline i)
      flat_view p e = record {
        frame_is = e;
        load_is = λ m h. sym (f.copied.of_loads.each m (omega arith));
        period_is = λ m h. sym (f.copied.of_periods.each m (omega arith));
        jitter_is = refl;
        deadline_is = refl;
      }

      -- a task that is judged and fits at no K
      pub choosing_unfit : (p : Option Frame)
          → SameFrame o p
          → (spared : Bool)
          → spared ≡ spares x ((view_of s).low i)
          → KeepOf spared o loads periods keep i ((view_of s).jitter i) ((view_of s).deadline i) std.None
          → ChoicesAre (extent_in x) (with_frame p (view_of s)) (record { keep = keep; worst = worst; fitted = i; evaluations = n })
      choosing_unfit p e spared d h = record {
        is = rw (choice_in, lt-leb s.count i l) (sym (unfit_stays (extent_in x) (with_frame p (view_of s)) i (suc i) s.count l unfit_here));
        within = f.within;
        so_far = f.so_far p e;
        keep_past = f.keep_past;
        worst_past = f.worst_past;
        keep_long = f.keep_long;
        worst_long = f.worst_long;
        counted = f.counted p e;
      }
        where
          unfit_here : choice_of (extent_in x) (with_frame p (view_of s)) (suc i) ≡ unfit i
          unfit_here =
              next_unfit (extent_in x) (with_frame p (view_of s)) i _ _ (f.so_far p e)
              (found_none (extent_in x) (with_frame p (view_of s)) o loads periods keep i _ _ (flat_view p e) spared
              (judged_unspared x (with_frame p (view_of s)) i spared d) h)

      -- a task with a kept jitter
      next_is : (p : Option Frame)
          → SameFrame o p
          → (spared : Bool) (K w q m : ℕ)
          → spared ≡ spares x ((view_of s).low i)
          → KeepOf spared o loads periods keep i ((view_of s).jitter i) ((view_of s).deadline i) (kept_at K w q m)
          → NextIs (extent_in x) (with_frame p (view_of s)) (take i keep) i K w m
      next_is p e spared K w q m d h =
          found_keep (extent_in x) (with_frame p (view_of s)) o loads periods keep i _ _ (flat_view p e) spared K w q m
          (judged_unspared x (with_frame p (view_of s)) i spared d) h

      -- the evaluations with those of task i stay far below 64 bits
      pub choosing_few : (spared : Bool) (K w q m : ℕ)
          → spared ≡ spares x ((view_of s).low i)
          → KeepOf spared o loads periods keep i ((view_of s).jitter i) ((view_of s).deadline i) (kept_at K w q m)
          → n + m ≤ (i + 1) * 100000020000001
      choosing_few spared K w q m d h = omega (arith, f.few, (next_is o (frame_itself o) spared K w q m d h).small)

      -- one task more
      pub choosing_next : (spared : Bool) (K w q m : ℕ)
          → spared ≡ spares x ((view_of s).low i)
          → KeepOf spared o loads periods keep i ((view_of s).jitter i) ((view_of s).deadline i) (kept_at K w q m)
          → Choosing x s o loads periods (set keep i K) (set worst i w) (n + m) (i + 1)
      unfolding sum
      choosing_next spared K w q m d h = record {
        valid = f.valid;
        within = omega arith;
        copied = f.copied;
        keep_long = simp length-set f.keep_long;
        worst_long = simp length-set f.worst_long;
        kept_small = small_next;
        so_far = so_far_next;
        keep_past = past_next keep i K f.keep_past;
        worst_past = past_next worst i w f.worst_past;
        counted = λ p e. rw add-one (counted_next p e);
        few = choosing_few spared K w q m d h;
      }
        where
          is : (p : Option Frame) → SameFrame o p → NextIs (extent_in x) (with_frame p (view_of s)) (take i keep) i K w m
          is p e = next_is p e spared K w q m d h

          keep_there : i < length keep
          keep_there = omega (arith, f.valid.few_tasks, f.keep_long)

          worst_there : i < length worst
          worst_there = omega (arith, f.valid.few_tasks, f.worst_long)

          -- the slots up to task i, as the verdicts of these tasks see them
          kept_before : (j : ℕ) → j < i → column keep j ≡ column (set keep i K) j
          kept_before j g = sym (get_or-set_other keep i j K 0 (λ e. omega arith))

          kept_to : (j : ℕ) → j ≤ i → and_keep (take i keep) K j ≡ column (set keep i K) j
          kept_to j g = ap (λ (l : List ℕ). column l j) (sym (take-suc-set keep i K keep_there)) ∙ get_or-take (suc i) (set keep i K) j 0 (omega arith)

          so_far_next : (p : Option Frame) → SameFrame o p
              → choice_of (extent_in x) (with_frame p (view_of s)) (i + 1) ≡ chosen (take (i + 1) (set keep i K)) (map pos (take (i + 1) (set worst i w)))
          so_far_next p e =
              rw (add-one, take-suc-set keep i K keep_there, take-suc-set worst i w worst_there, map-append pos (take i worst) (w ∷ []))
              (next_keep (extent_in x) (with_frame p (view_of s)) i K (pos w) _ _ (f.so_far p e) (is p e).keep (is p e).worst)

          counted_next : (p : Option Frame) → SameFrame o p
              → n + m ≡ sum (λ j. evaluations_for (extent_in x) (with_frame p (view_of s)) (column (set keep i K)) j) (suc i)
          counted_next p e = omega (
            arith,
            f.counted p e,
            sum_eq (λ j. evaluations_for (extent_in x) (with_frame p (view_of s)) (column keep) j)
                (λ j. evaluations_for (extent_in x) (with_frame p (view_of s)) (column (set keep i K)) j) i
                (λ j g. for_kept (extent_in x) (with_frame p (view_of s)) (column keep) (column (set keep i K)) j (λ b y. kept_before b (omega arith))),
            (is p e).counted,
            for_kept (extent_in x) (with_frame p (view_of s)) (and_keep (take i keep) K) (column (set keep i K)) i kept_to,
          )

          small_next : (m : ℕ) → m < i + 1 → column (set keep i K) m ≤ max_time
          small_next m g =
              dite (dec_lt m i)
              (λ y. rw (get_or-set_other keep i m K 0 (λ e. omega arith)) (f.kept_small m y))
              (λ y.
              let e : m ≡ i = omega arith in
              rw (e, get_or-set_same keep i K 0 keep_there) (omega (arith, (is o (frame_itself o)).in_jitter, (f.valid.in_range_lem i l).jitter_high)))

    -- every task has a kept jitter
    pub choosing_all : (p : Option Frame) → SameFrame o p → s.count ≤ i
        → ChoicesAre (extent_in x) (with_frame p (view_of s)) (record { keep = keep; worst = worst; fitted = s.count; evaluations = n })
    choosing_all p a h =
        let e : i ≡ s.count = omega arith in
        record {
          is = rw (choice_in, le-leb s.count s.count (omega arith)) (sym (rw e at (f.so_far p a)));
          within = omega arith;
          so_far = rw e at (f.so_far p a);
          keep_past = rw e at f.keep_past;
          worst_past = rw e at f.worst_past;
          keep_long = f.keep_long;
          worst_long = f.worst_long;
          counted = rw e at (f.counted p a);
        }
