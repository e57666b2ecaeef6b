-- Laws of a run in a frame: what its checks find, ready ticks that do not depend on the frame, and jobs in two frames with the same windows.
use Prim.Native.Nat.{ℕ}
use mathlib.Core.Path.{◌≡◌, refl, ap₂}
use mathlib.Core.Bool.{Bool}
use mathlib.Core.Option.{Option, some, none}
use mathlib.Core.List.{List}
use native.Mathlib.Omega.{arith}
use Rattle.model.specs.Frame.{Frame}
use Rattle.model.specs.Tasks.{Tasks, with_frame, Release}
use Rattle.model.specs.Ready.{ready_at, ready_list}
use Rattle.model.specs.Refusal.{Refusal}
use Rattle.model.specs.Checks.{refusal_of}
use Rattle.model.specs.SameTasks.{SameFrame}
use Rattle.model.specs.Run.{Jobs}
use Rattle.model.proofs.FrameLaws.{Ruled, ours_same, turn_same}
use Rattle.model.proofs.FramedLaws.{framed_refusal}
use Rattle.model.proofs.OrderLaws.{refused_tasks}
use Rattle.trace.specs.TraceCalls.{call_inputs}
use Rattle.queues.specs.Framed.{framed_first}
use Rattle.queues.specs.Queues.{jobs_of, Runnable}

module _ (s : Tasks) (kept : List ℕ) (n : ℕ) (task tick cost : List ℕ) (m : ℕ) where
  -- a refusal of the sheet with its frame is the call's
  pub first_refuses : (o : Option Frame) (q : Refusal) → some q ≡ framed_first o s → some q ≡ refusal_of (call_inputs (with_frame o s) kept n task tick cost m)
  first_refuses none q h = let z : ◌≡◌ {A = ℕ} 0 1 = cc in absurd (omega arith)
  first_refuses (some f) q h = refused_tasks (call_inputs (with_frame (some f) s) kept n task tick cost m) q h

  -- where there is none, the call has the refusal of the sheet without its frame
  pub first_passes : (o : Option Frame) → none ≡ framed_first o s
      → refusal_of (call_inputs (with_frame none s) kept n task tick cost m) ≡ refusal_of (call_inputs (with_frame o s) kept n task tick cost m)
  first_passes none h = refl
  first_passes (some f) h = framed_refusal (some f) s _ _ _ _ _ _ h

-- no ready tick depends on the frame
pub ready_alike : (o : Option Frame) (s : Tasks) (k : ℕ → ℕ) (l : List Release) → ready_list (with_frame none s) k l ≡ ready_list (with_frame o s) k l
unfolding ready_list ready_at
ready_alike o s k l = refl

-- frames with the same windows
module _ (p o : Option Frame) (same : SameFrame p o) (n : ℕ) (task cost : List ℕ) (charge : ℕ) (ready : List ℕ) where
  -- the jobs with other ticks that are ours
  abbrev with : (ℕ → Bool) → ℕ → Jobs
  with ours turn = record {
    count = (jobs_of p n task cost charge ready).count;
    task = (jobs_of p n task cost charge ready).task;
    start = (jobs_of p n task cost charge ready).start;
    work = (jobs_of p n task cost charge ready).work;
    ours = ours;
    turn = turn;
  }

  -- have the same jobs
  pub jobs_alike : jobs_of p n task cost charge ready ≡ jobs_of o n task cost charge ready
  jobs_alike = ap₂ with (ours_same p o same) (turn_same p o same)

  -- which can be run in the one as in the other
  pub runnable_alike : (tasks : ℕ) (finish : List ℕ) → Ruled p → Runnable o n tasks task cost charge ready finish → Runnable p n tasks task cost charge ready finish
  runnable_alike tasks finish h r =
      record {
        framed = h;
        few = r.few;
        few_tasks = r.few_tasks;
        task_long = r.task_long;
        workable = r.workable;
        ready_long = r.ready_long;
        finish_long = r.finish_long;
        known = r.known;
        work_low = r.work_low;
        finish_high = λ q l. rw jobs_alike (r.finish_high q l);
        in_order = r.in_order;
      }
