-- Document 02's R-2, the kernel picks up at the next tick, as statements about runs and response bounds; proofs/PickupLaws.antt proves them
-- (`tick_picks`, `finish_later`, `bound_later`, `ready_finished`).
use Rattle.std.specs.Prelude.{ℕ, ◌+◌, ◌≤◌, ◌<◌, ◌≡◌, Bool, true, false, List, length, pos, ◌+ℤ◌, ◌-ℤ◌}
use Rattle.std.proofs.Math.Option.{Option, some, none}
use Rattle.model.specs.Processor.{Processor, pickup}
use Rattle.model.specs.Tasks.{Tasks, board_of, Release, release_at}
use Rattle.model.specs.Ready.{ready_at}
use Rattle.model.specs.Run.{jobs_on, jobs, runs, finish_of, finish_at}
use Rattle.model.specs.Bound.{max_z, min_z, offset, bound}
use Rattle.model.specs.Claims.{Trace, Finished}
use Rattle.processor.specs.FinishBound.{Framed}

-- the job at p was ready before tick t and is unfinished at t
pub record Waits (s : Tasks) (k : ℕ → ℕ) (l : List Release) (t p : ℕ) : Type 0 where
  pub in_list : p < length l
  pub was_ready : ready_at s k l p < t
  pub unfinished : t < finish_at s k l p

-- p is of a higher-priority task than q, or of the same task and not younger
abbrev pub GoesFirst : List Release → ℕ → ℕ → Type 0
GoesFirst l p q = ((release_at l p).task ≤ (release_at l q).task) × ((release_at l p).task ≡ (release_at l q).task → p ≤ q)

-- of the jobs that were ready before tick t and are unfinished, the highest-priority task's oldest; none where there is no such job
abbrev pub Picks : Tasks → (ℕ → ℕ) → List Release → ℕ → Option ℕ → Type 0
Picks s k l t none = (q : ℕ) → Waits s k l t q → ⊥
Picks s k l t (some p) = Waits s k l t p × ((q : ℕ) → Waits s k l t q → GoesFirst l p q)

-- in a tick that is ours that job runs: none sooner than the tick after its ready tick, and none is kept waiting longer by the kernel; in any other none runs
abbrev pub TickPicks : Type 0
TickPicks =
    (s : Tasks) → Framed s → (k : ℕ → ℕ) (l : List Release) → Trace s l → (t : ℕ)
    → ((board_of s).ours t ≡ true → Picks s k l t (runs (jobs s k l) t)) × ((board_of s).ours t ≡ false → runs (jobs s k l) t ≡ none)

-- the processor of a sheet, but a job may run in its ready tick, as before R-2, and ours are the ticks that are the pickup before one of ours. Without a frame
-- every tick is ours there too
abbrev pub at_once : Tasks → Processor
at_once s = record { start = λ ready. ready; work = (board_of s).work; ours = λ t. (board_of s).ours (t + pickup); turn = (board_of s).turn }

-- each job finishes the pickup later than there
abbrev pub FinishLater : Type 0
FinishLater =
    (s : Tasks) → Framed s → (k : ℕ → ℕ) (l : List Release) → Trace s l → (p : ℕ) → p < length l
    → finish_at s k l p ≡ finish_of (jobs_on (at_once s) s k l) p + pickup

-- R(q) is document 01's, and the pickup
abbrev pub BoundLater : Type 0
BoundLater =
    (P J K q w : ℕ) → bound P J K q w ≡ (pos w +ℤ max_z (offset P J q -ℤ pos K) (min_z (pos 0) (offset P J q))) +ℤ pos pickup

-- limit and share, in document 01's words, are claimed from a tick u at which every job of theirs that was ready before u is finished. At such a tick every job
-- that may run before u is finished, so they hold from it (`Claims`)
abbrev pub ReadyFinished : Type 0
ReadyFinished =
    (s : Tasks) (k : ℕ → ℕ) (l : List Release) (us : ℕ → Bool) (u : ℕ)
    → ((p : ℕ) → p < length l → us (release_at l p).task ≡ true → ready_at s k l p < u → finish_at s k l p ≤ u) → Finished s k l us u
