-- What demand 3 says of one task in the run of one trace, in numbers; proofs/RunBounds.antt proves it (`task_bounds`).
use Rattle.std.specs.Prelude.{ℕ, ◌+◌, ◌-◌, ◌*◌, ◌≤◌, ◌<◌, ◌≡◌, List, length}
use Rattle.std.proofs.Math.Option.{some, none}
use Rattle.model.specs.Tasks.{Tasks, Release, release_at, load, our_ticks, Valid}
use Rattle.model.specs.Arrival.{arrivals}
use Rattle.model.specs.Ready.{place}
use Rattle.model.specs.Run.{jobs, finish_at}
use Rattle.model.specs.Demand.{above_load, window}
use Rattle.model.specs.Claims.{Trace, Finished, used, left_over, is_task, is_above}
use Rattle.response.specs.VerdictSays.{Walked}

-- W(q), and 0 where there is none up to H
unfoldable pub window_of : Tasks → (ℕ → ℕ) → ℕ → ℕ → ℕ
window_of s k i q = elim (window s k i q) [ none ↦ 0 | some w ↦ w ]

-- a job at p of task i is finished W(q) ticks after a tick that is not after the first in which the job q places before it may run
pub record InWindow (s : Tasks) (k : ℕ → ℕ) (i : ℕ) (l : List Release) (last p : ℕ) : Type 0 where
  pub q : ℕ
  pub q_le : q ≤ last
  pub lead : ℕ
  pub lead_le : lead ≤ p
  pub lead_own : (release_at l lead).task ≡ i
  pub places : place l p ≡ place l lead + q
  pub from : ℕ
  pub from_le : from ≤ (jobs s k l).start lead
  pub finished : finish_at s k l p ≤ from + window_of s k i q

pub record TaskBounds (s : Tasks) (k : ℕ → ℕ) (i : ℕ) (l : List Release) : Type 0 where
  -- a task runs at most load × σ(t) of the t ticks from u on
  pub limit : (u t : ℕ) → Finished s k l (is_task i) u → used s k l (is_task i) u t ≤ load s i * arrivals (s.period i) (k i) t
  -- the tasks above leave over (our ticks among n) − Σ load_j σ_j(n) of the t ticks from u on, for every n ≤ t
  pub share : (u t n : ℕ) → n ≤ t → Finished s k l (is_above i) u → our_ticks s u n - above_load s k i n ≤ left_over s k l (is_above i) u t
  -- where the walk of the verdict stops without a late q, every job is finished so
  pub window : (d : Walked s k i) (p : ℕ) → p < length l → (release_at l p).task ≡ i → InWindow s k i l d.last p

abbrev pub TaskBoundsHold : Type 0
TaskBoundsHold =
    (s : Tasks) → Valid s → (k : ℕ → ℕ) → ((j : ℕ) → j < s.count → k j ≤ s.jitter j) → (i : ℕ) → i < s.count
    → (l : List Release) → Trace s l → TaskBounds s k i l
