-- A frame whose windows are all of it has the verdicts, choices and runs of no frame; what does not depend on a frame at all.
use Prim.Native.Nat.{ℕ, zero, suc, ◌+◌, ◌-◌, ◌<◌}
use mathlib.Core.Path.{◌≡◌, refl, sym, ap, ◌∙◌, fun_ext}
use mathlib.Core.Bool.{true, cond, ◌&&◌}
use mathlib.Core.Option.{Option, some, none, some-injective}
use mathlib.Core.List.{List, ◌++◌, map}
use native.Mathlib.Omega.{arith}
use lib.ListN.{length}
use lib.Dec.{leb, ltb}
use Rattle.model.specs.Search.{first}
use Rattle.model.specs.Limits.{horizon_tick}
use Rattle.model.specs.Frame.{Frame, InRules, ours_in, turn_of}
use Rattle.model.specs.Tasks.{Tasks, with_frame, Release}
use Rattle.model.specs.Ready.{ready_at, ready_list}
use Rattle.model.specs.Run.{jobs, pending, top, pick, less, left_at, runs, finish_of, finish_at, finish_list}
use Rattle.model.specs.Stops.{different, stop_ticks, stop_count}
use Rattle.model.specs.Demand.{above_load, demand, meets, window_from, larger, largest, window}
use Rattle.model.specs.Verdict.{verdict}
use Rattle.model.specs.Evaluations.{taken, counted_at, evaluations}
use Rattle.model.specs.Legality.{too_close, first_close}
use Rattle.model.specs.Claims.{Trace}
use Rattle.model.proofs.SeriesLaws.{sum_nil}
use Rattle.model.proofs.SupplyLaws.{supply_same}
use Rattle.model.proofs.FrameLaws.{Ruled, unframed_ruled, turn_low}
use Rattle.model.proofs.TableLaws.{table_agree}
use Rattle.model.proofs.SameVerdict.{verdict_by}
use Rattle.model.proofs.SameChoice.{SameChosen, scope_by, choice_by}
use Rattle.theory.proofs.FinishLaws.{LastTick, finish_ran, finish_last}
use Rattle.guarantee.specs.WholeFrame.{WholeIsNone, FrameIsFree, FramedIsUncounted}
use Rattle.guarantee.proofs.BoardRun.{served}

-- whatever the frame
pub frame_free : FrameIsFree
unfolding ready_list ready_at first_close too_close
frame_free o s = record { ready = λ k l. refl; close = λ l. refl }

pub framed_uncounted : FramedIsUncounted
unfolding evaluations counted_at
framed_uncounted f s k i = sum_nil _ (taken (with_frame (some f) s) k i) (λ q l. refl)

-- the largest of numbers that are all one, or all missing
larger_zero : (o : Option ℕ) → larger (some 0) o ≡ o
unfolding larger
larger_zero none = refl
larger_zero (some a) = ap some (omega arith)

larger_itself : (o : Option ℕ) → larger o o ≡ o
unfolding larger
larger_itself none = refl
larger_itself (some a) = ap some (omega arith)

largest_one : (f : ℕ → Option ℕ) (o : Option ℕ) (n : ℕ) → ((u : ℕ) → f u ≡ o) → largest f (suc n) ≡ o
unfolding largest
largest_one f o zero h = ap (larger (some 0)) (h 0) ∙ larger_zero o
largest_one f o (suc n) h = (λ x. larger (largest_one f o n h x) (h (suc n) x)) ∙ larger_itself o

-- a sheet with every tick ours, with a frame or without one, against the sheet without one
module _ (o : Option Frame) (v : Ruled o) (all : (t : ℕ) → ours_in o t ≡ true) (s : Tasks) where
  -- W(q) of every start is that of tick 0 without a frame
  from_whole : (k : ℕ → ℕ) (i q u : ℕ) → window_from (with_frame o s) k i q u ≡ window_from (with_frame none s) k i q 0
  unfolding window_from meets demand above_load
  from_whole k i q u = λ x.
      first (λ t. leb (demand (with_frame none s) k i q t) (supply_same (ours_in o) (ours_in none) u 0 t (λ n. all (u + n)) x)) horizon_tick 1

  -- and so is the largest
  window_first : (k : ℕ → ℕ) (i q : ℕ) → window (with_frame o s) k i q ≡ window_from (with_frame none s) k i q 0
  unfolding window
  window_first k i q =
      let e : turn_of o ≡ suc (turn_of o - 1) = omega (arith, turn_low o v) in
      ap (largest (window_from (with_frame o s) k i q)) e
      ∙ largest_one (window_from (with_frame o s) k i q) (window_from (with_frame none s) k i q 0) (turn_of o - 1) (from_whole k i q)

  -- the job that runs
  pick_whole : (k : ℕ → ℕ) (l : List Release) (left : ℕ → ℕ) (t : ℕ) → pick (jobs (with_frame o s) k l) left t ≡ pick (jobs (with_frame none s) k l) left t
  unfolding pick pending ready_at
  pick_whole k l left t = λ x.
      cond (all t x)
      (top (jobs (with_frame none s) k l).task (λ p. leb ((jobs (with_frame none s) k l).start p) t && ltb 0 (left p)) (length l)) none

  left_whole : (k : ℕ → ℕ) (l : List Release) (t : ℕ) → left_at (jobs (with_frame o s) k l) t ≡ left_at (jobs (with_frame none s) k l) t
  unfolding left_at
  left_whole k l zero = fun_ext (λ p. refl)
  left_whole k l (suc t) =
      ap (λ (left : ℕ → ℕ). λ p. less (pick (jobs (with_frame o s) k l) left t) left p) (left_whole k l t)
      ∙ ap (λ c. λ p. less c (left_at (jobs (with_frame none s) k l) t) p) (pick_whole k l (left_at (jobs (with_frame none s) k l) t) t)

  runs_whole : (k : ℕ → ℕ) (l : List Release) (t : ℕ) → runs (jobs (with_frame o s) k l) t ≡ runs (jobs (with_frame none s) k l) t
  unfolding runs
  runs_whole k l t =
      ap (λ (left : ℕ → ℕ). pick (jobs (with_frame o s) k l) left t) (left_whole k l t) ∙ pick_whole k l (left_at (jobs (with_frame none s) k l) t) t

-- a frame with every tick ours
module _ (f : Frame) (r : InRules f) (whole : (t : ℕ) → ours_in (some f) t ≡ true) (s : Tasks) where
  ruled : Ruled (some f)
  ruled g e = rw (some-injective f g e) at r

  abbrev a : Tasks
  a = with_frame (some f) s

  abbrev b : Tasks
  b = with_frame none s

  verdict_whole : (k : ℕ → ℕ) (i : ℕ) → verdict a k i ≡ verdict b k i
  verdict_whole k i =
      verdict_by a b k k i
      (record {
        windows = λ q. window_first (some f) ruled whole s k i q ∙ sym (window_first none unframed_ruled (λ t. refl) s k i q);
        period = refl;
        keep = refl;
        jitter = refl;
        deadline = refl;
      })

  -- the choice looks at nothing else that a frame may change
  same_chosen : SameChosen a b
  same_chosen = record { count = refl; jitter = λ i. refl; low = λ i. refl; verdicts = verdict_whole }

  -- runs: the last tick of a job is the same
  module _ (k : ℕ → ℕ) (l : List Release) (tr : Trace s l) where
    finish_whole : (p : ℕ) → p < length l → finish_at a k l p ≡ finish_at b k l p
    unfolding finish_at
    finish_whole p h = go (finish_ran (jobs a k l) (served a ruled k l) p h (omega (arith, (tr.sound p h).cost_low)))
      where
        go : (u : ℕ) × (finish_of (jobs a k l) p ≡ suc u) × LastTick (jobs a k l) p u → finish_of (jobs a k l) p ≡ finish_of (jobs b k l) p
        go (u, e, (w, z)) =
            e ∙ sym (finish_last (jobs b k l) (served b unframed_ruled k l) p h (omega (arith, (tr.sound p h).cost_low)) u
            (sym (runs_whole (some f) ruled whole s k l u) ∙ w, sym (ap (λ g. g p) (left_whole (some f) ruled whole s k l (suc u))) ∙ z))

    finishes_whole : finish_list a k l ≡ finish_list b k l
    unfolding finish_list
    finishes_whole = table_agree (finish_at a k l) (finish_at b k l) (length l) finish_whole

    halts_whole : stop_count a k l ≡ stop_count b k l
    unfolding stop_count stop_ticks ready_list ready_at
    halts_whole = λ x. different (map (λ n. n + 1) (ready_list b k l) ++ finishes_whole x)

pub whole_frame : WholeIsNone
whole_frame f r whole s = record {
  verdicts = verdict_whole f r whole s;
  scopes = scope_by (with_frame (some f) s) (with_frame none s) (same_chosen f r whole s);
  choices = choice_by (with_frame (some f) s) (with_frame none s) (same_chosen f r whole s);
  finish = finish_whole f r whole s;
  halts = halts_whole f r whole s;
}
