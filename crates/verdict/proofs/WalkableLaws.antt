-- A task of a sheet that passed its checks can be judged by its columns.
use Rattle.std.specs.Prelude as std
use Prim.Native.Nat.{ℕ, ◌<◌}
use mathlib.Core.Path.{◌≡◌, refl, ◌∙◌}
use mathlib.Core.Option.{Option, some}
use mathlib.Core.List.{List}
use native.Mathlib.Omega.{arith}
use native.Mathlib.Nat.{add-zero}
use Rattle.model.specs.Frame as model
use Rattle.model.specs.Demand.{window}
use Rattle.model.specs.Choice.{column}
use Rattle.model.specs.Evaluations.{judged}
use Rattle.model.specs.SameTasks.{SameFrame}
use Rattle.model.proofs.SameVerdict.{judged_same}
use Rattle.model.proofs.FrameLaws.{Ruled}
use Rattle.model.proofs.FramedLaws.{bare_valid}
use Rattle.response.proofs.WindowLaws.{Window, window_some}
use Rattle.taskset.specs.declared.TaskSet.{TaskSet}
use Rattle.taskset.specs.TaskSet.{view_of}
use Rattle.frame.specs.declared.Frame.{Frame}
use Rattle.frame.specs.declared.Supply.{Supply}
use Rattle.frame.specs.FrameView.{frame_of, framed_of}
use Rattle.demand.specs.declared.TaskColumns.{TaskColumns}
use Rattle.demand.specs.Seeking.{Counts, tally_of}
use Rattle.demand.specs.Columns.{flat_tasks, Small, Periods, Copied}
use Rattle.demand.proofs.FlatColumnLaws.{copied_periods}
use Rattle.demand.proofs.SeekColumnLaws.{counts_of, counts_by}
use Rattle.demand.proofs.TaskCallLaws.{Passed}
use Rattle.verdict.specs.declared.Best.{Best}
use Rattle.verdict.specs.Walking.{Walkable, Met, tasks_in}
use Rattle.verdict.proofs.VerdictWalk.{Walk}

-- how much a number that is tried counts, as the code has it
pub counts_in : (s : Supply) (c : TaskColumns) (J D n : ℕ) → n ≡ tally_of s.framed → Counts (tasks_in s c J D) n
counts_in s c J D n e = counts_by (tasks_in s c J D) (tally_of s.framed) n (counts_of s.framed s.ticks s.count s.first s.size c.loads c.periods J D) e

-- R(q) is a natural number where the walk comes
pub met_at : (o : Option model.Frame) (loads periods keeps : List ℕ) (i J D q t : ℕ) (b : Best) (n : ℕ)
    → Walkable loads periods keeps i J
    → Ruled o
    → Walk (flat_tasks o loads periods J D) (column keeps) i q b n
    → window (flat_tasks o loads periods J D) (column keeps) i q ≡ some t
    → Met (column periods i) J (column keeps i) q t
met_at o loads periods keeps i J D q t b n r v w e =
    let f : Window (flat_tasks o loads periods J D) (column keeps) i q t = window_some (flat_tasks o loads periods J D) (column keeps) i v q t e in
    record {
      period_high = r.period_high;
      jitter_high = r.jitter_high;
      keep_high = r.keep_high;
      q_high = w.q_high;
      w_low = f.low;
      w_high = f.high;
      behind = w.behind t e;
    }

module _ (s : TaskSet) (f : std.Option Frame) (i : ℕ) (kept loads periods : List ℕ) (p : Passed (framed_of s f) i kept) (c : Copied s s.count loads periods) where
  -- the numbers of a task in its columns
  small : (j : ℕ) → j < s.count → Small (column loads j) (column periods j) (column kept j)
  small j l =
      let r = p.valid.in_range_lem j l in
      let g = p.valid.carried j l in
      record {
        load_high = omega (arith, c.of_loads.each j l);
        period_low = omega (arith, c.of_periods.each j l);
        period_high = omega (arith, c.of_periods.each j l);
        keep_high = omega (arith, p.kept_in j l);
      }

  -- the columns of the task and of those above it
  pub walkable : Walkable loads periods kept i ((view_of s).jitter i)
  walkable =
      let r = p.valid.in_range_lem i p.known in
      record {
        search =
            record {
              above =
                  record {
                    few = omega (arith, p.known, p.valid.few_tasks);
                    loads_long = omega (arith, p.known, p.valid.few_tasks, c.of_loads.long);
                    periods_long = omega (arith, p.known, p.valid.few_tasks, c.of_periods.long);
                    keeps_long = omega (arith, p.known, p.long);
                    small = λ j l. small j (omega (arith, p.known));
                  };
              loads_long = omega (arith, p.known, p.valid.few_tasks, c.of_loads.long);
              cost_low = omega (arith, c.of_loads.each i p.known);
              cost_high = (small i p.known).load_high;
            };
        periods_long = omega (arith, p.known, p.valid.few_tasks, c.of_periods.long);
        keeps_long = omega (arith, p.known, p.long);
        period_high = (small i p.known).period_high;
        jitter_high = r.jitter_high;
        keep_high = p.kept_in i p.known;
      }

  -- the periods above
  pub above_periods : Periods periods i
  above_periods = copied_periods s loads periods i (bare_valid (frame_of f) (view_of s) p.valid) c (omega (arith, p.known))

  -- the verdict by the columns, with the same frame, and its number are the sheet's
  pub flat_judged
      : (o : Option model.Frame) → SameFrame o (frame_of f)
      → judged (flat_tasks o loads periods ((view_of s).jitter i) ((view_of s).deadline i)) (column kept) i ≡ judged (framed_of s f) (column kept) i
  flat_judged o same =
      judged_same (flat_tasks o loads periods ((view_of s).jitter i) ((view_of s).deadline i)) (framed_of s f) (column kept) (column kept) i
      (record {
        loads = λ j l. add-zero (column loads j) ∙ c.of_loads.each j (omega (arith, p.known));
        periods = λ j l. c.of_periods.each j (omega (arith, p.known));
        keeps = λ j l. refl;
        jitter = refl;
        deadline = refl;
        frame = same;
      })
