-- Demand 3 on any processor: limit, share, what a walk without a late q promises, and what a late q promises.
use Rattle.std.specs.Prelude.{ℕ, suc, ◌+◌, ◌-◌, ◌*◌, ◌≤◌, ◌<◌, ◌≡◌, List, length}
use Rattle.model.specs.Processor.{Processor}
use Rattle.model.specs.Tasks.{Tasks, Release, release_at}
use Rattle.model.specs.Arrival.{arrivals}
use Rattle.model.specs.Gap.{gap, Legal}
use Rattle.model.specs.Run.{jobs_on, left_at}
use Rattle.model.specs.Claims.{Trace, is_task, is_above}
use Rattle.theory.specs.Windows.{used_by, idle_by, Clear}
use Rattle.processor.specs.ProcessorDemand.{Regular, load_on, supply_on, above_on, demand_on}

-- "limit": from a tick at which its own jobs that may run before it are finished, a task runs at most load × σ(t) of the next t ticks
abbrev pub LimitOn : Processor → Tasks → (ℕ → ℕ) → ℕ → List Release → Type 0
LimitOn m s k i l =
    (u t : ℕ) → Clear (jobs_on m s k l) (is_task i) u → used_by (jobs_on m s k l) (is_task i) u t ≤ load_on m s i * arrivals (s.period i) (k i) t

-- "share": from a tick at which the jobs of the tasks above that may run before it are finished, the next t ticks leave over
-- at least the supply of the first n of them less the loads that may come in those
abbrev pub ShareOn : Processor → Tasks → (ℕ → ℕ) → ℕ → List Release → Type 0
ShareOn m s k i l =
    (u t n : ℕ) → n ≤ t → Clear (jobs_on m s k l) (is_above i) u
    → supply_on m u n ≤ idle_by (jobs_on m s k l) (is_above i) u t + above_on m s k i n

-- the walk of a verdict that is "fits": from each tick the demand of each q up to the last is met within w(q) ticks, R(q) ≤ D, and w(q) ≤ d_K(q + 1) for the last.
-- R(q) ≤ D without integers, x being J − qP: w(q) + pickup + max(0, x − K) ≤ D + max(0, −x)
pub record WalkOn (m : Processor) (r : Regular m) (s : Tasks) (k : ℕ → ℕ) (i last : ℕ) (w : ℕ → ℕ) : Type 0 where
  pub met : (q u : ℕ) → q ≤ last → (t : ℕ) × (1 ≤ t) × (t ≤ w q) × (demand_on m s k i q t ≤ supply_on m u t)
  pub in_time
      : (q : ℕ) → q ≤ last → w q + r.pickup + (s.jitter i - (q * s.period i + k i)) ≤ s.deadline i + (q * s.period i - s.jitter i)
  pub ends : w last ≤ gap (s.period i) (k i) (suc last)

-- no job of task i is late: each is finished D ticks after its release
abbrev pub MetOn : Processor → Tasks → (ℕ → ℕ) → ℕ → List Release → Type 0
MetOn m s k i l =
    (p : ℕ) → p < length l → (release_at l p).task ≡ i → left_at (jobs_on m s k l) ((release_at l p).tick + s.deadline i) p ≡ 0

-- a q that is late: no t below w meets its demand from some tick on, and R(q) > D. The tick leaves room for earlier own jobs
pub record LateOn (m : Processor) (r : Regular m) (s : Tasks) (k : ℕ → ℕ) (i : ℕ) : Type 0 where
  pub q : ℕ
  pub w : ℕ
  pub some_tick : 1 ≤ w
  pub from : ℕ
  pub room : r.pickup + s.period i + s.jitter i ≤ from
  pub unmet : (t : ℕ) → 1 ≤ t → t < w → supply_on m from t < demand_on m s k i q t
  pub over : s.deadline i + (q * s.period i - s.jitter i) < w + r.pickup + (s.jitter i - (q * s.period i + k i))

-- a list, every task's releases legal, ticks at most end, in whose run a job of task i is not finished D ticks after its release
pub record MissedOn (m : Processor) (s : Tasks) (k : ℕ → ℕ) (i end : ℕ) : Type 0 where
  pub list : List Release
  pub trace : Trace s list
  pub legal : (j : ℕ) → j < s.count → Legal s list j
  pub ticks : (p : ℕ) → p < length list → (release_at list p).tick ≤ end
  pub job : ℕ
  pub in_list : job < length list
  pub own_job : (release_at list job).task ≡ i
  pub not_done : left_at (jobs_on m s k list) ((release_at list job).tick + s.deadline i) job ≡ 0 → ⊥

-- demand 3 of task i on a processor, with kept jitters k
pub record DemandOn (m : Processor) (r : Regular m) (s : Tasks) (k : ℕ → ℕ) (i : ℕ) : Type 0 where
  pub limit : (l : List Release) → Trace s l → LimitOn m s k i l
  pub share : (l : List Release) → Trace s l → ShareOn m s k i l
  pub if_fits : (last : ℕ) (w : ℕ → ℕ) → WalkOn m r s k i last w → (l : List Release) → Trace s l → Legal s l i → MetOn m s k i l
  pub if_late : (d : LateOn m r s k i) → MissedOn m s k i (d.from + d.w + s.jitter i + s.period i + d.q * s.period i)
