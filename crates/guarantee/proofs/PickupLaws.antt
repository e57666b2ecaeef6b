-- The kernel picks up at the next tick: which job runs in a tick, and by how much finish ticks and response bounds grow.
use Prim.Native.Nat.{ℕ, ◌<◌}
use mathlib.Core.Path.{◌≡◌, refl, sym, ap, ◌∙◌}
use mathlib.Core.Bool.{true}
use mathlib.Core.Logic.{◌⊎◌, inl, inr}
use mathlib.Core.Option.{Option, some, none}
use mathlib.Core.List.{List}
use native.Mathlib.Nat.{eq-zero-or-pos}
use native.Mathlib.Omega.{arith}
use lib.IntN.{ℤ, pos, ◌+ℤ◌, ◌-ℤ◌, +ℤ_assoc, +ℤ_comm}
use Rattle.model.specs.Processor.{pickup}
use Rattle.model.specs.Tasks.{Tasks, board_of, Release}
use Rattle.model.specs.Run.{jobs_on, jobs, left_at, runs, finish_at}
use Rattle.model.specs.Bound.{max_z, min_z, offset, bound}
use Rattle.model.specs.Claims.{Trace}
use Rattle.theory.proofs.RunLaws.{Picked, runs_some, runs_none, runs_off}
use Rattle.theory.proofs.FinishLaws.{finish_not}
use Rattle.theory.proofs.LaterLaws.{finish_then}
use Rattle.processor.specs.FinishBound.{Framed}
use Rattle.guarantee.specs.Pickup.{Waits, Picks, TickPicks, at_once, FinishLater, BoundLater, ReadyFinished}
use Rattle.guarantee.proofs.BoardRun.{served, works, finished_by}

module _ (s : Tasks) (v : Framed s) (k : ℕ → ℕ) (l : List Release) (tr : Trace s l) (t : ℕ) where
  -- a job that waits may run and has work left
  waits_left : (q : ℕ) → Waits s k l t q → 0 < left_at (jobs s k l) t q
  waits_left q w = go (eq-zero-or-pos (left_at (jobs s k l) t q))
    where
      go : (left_at (jobs s k l) t q ≡ 0) ⊎ (0 < left_at (jobs s k l) t q) → 0 < left_at (jobs s k l) t q
      go (inl e) = absurd (omega (arith, finished_by s v k l tr q w.in_list t e))
      go (inr h) = h

  -- the job that is picked waits
  picked_waits : (p : ℕ) → Picked (jobs s k l) (left_at (jobs s k l) t) t p → Waits s k l t p
  unfolding finish_at
  picked_waits p c = record {
    in_list = c.in_list;
    was_ready = omega (arith, c.started);
    unfinished = finish_not (jobs s k l) (served s v k l) p c.in_list (works s k l tr p c.in_list) t c.unfinished;
  }

-- which job runs in a tick
pub tick_picks : TickPicks
tick_picks s v k l tr t = (λ ours. go ours (runs (jobs s k l) t) refl, runs_off (jobs s k l) t)
  where
    go : (board_of s).ours t ≡ true → (o : Option ℕ) → runs (jobs s k l) t ≡ o → Picks s k l t o
    go ours none e = λ q w. omega (arith, waits_left s v k l tr t q w, runs_none (jobs s k l) t ours e q w.in_list (omega arith))
    go ours (some p) e =
        let c : Picked (jobs s k l) (left_at (jobs s k l) t) t p = runs_some (jobs s k l) t p e in
        (picked_waits s v k l tr t p c, λ q w. c.goes_first q w.in_list (omega arith) (waits_left s v k l tr t q w))

-- each job finishes the pickup later than where a job may run in its ready tick
pub finish_later : FinishLater
unfolding finish_at
finish_later s v k l tr p h = finish_then (jobs_on (at_once s) s k l) pickup (board_of s).ours (λ t. refl) (served s v k l) p h (works s k l tr p h)

-- R(q) is document 01's, and the pickup
pub bound_later : BoundLater
unfolding bound
bound_later P J K q w = swap (pos w) (pos pickup) (max_z (offset P J q -ℤ pos K) (min_z (pos 0) (offset P J q)))
  where
    swap : (a b c : ℤ) → a +ℤ b +ℤ c ≡ a +ℤ c +ℤ b
    swap a b c = +ℤ_assoc a b c ∙ ap (λ (z : ℤ). a +ℤ z) (+ℤ_comm b c) ∙ sym (+ℤ_assoc a c b)

-- where every job that was ready before a tick is finished, every job that may run before it is
pub ready_finished : ReadyFinished
ready_finished s k l us u f p h e g = f p h e (omega arith)
