-- The run of the scenario on a processor: its last own job is not finished before the end of the window.
use Prim.Native.Nat.{ℕ, ◌+◌, ◌-◌, ◌≤◌, ◌<◌}
use mathlib.Core.Path.{◌≡◌, refl, ap, ◌∙◌}
use mathlib.Core.List.{List}
use native.Mathlib.Omega.{arith}
use lib.ListN.{length}
use Rattle.model.specs.Processor.{Processor}
use Rattle.model.specs.Tasks.{Tasks, Release, release_at}
use Rattle.model.specs.Arrival.{arrivals}
use Rattle.model.specs.Gap.{gap}
use Rattle.model.specs.Ready as Model
use Rattle.model.specs.Ready.{ready_at}
use Rattle.model.specs.Run.{Jobs, jobs_on, left_at}
use Rattle.shaper.proofs.GapLaws.{gap_mono}
use Rattle.trace.proofs.PositionLaws.{Held}
use Rattle.trace.proofs.ReadyAtLaws.{ready_rising}
use Rattle.theory.proofs.RunLaws.{left_later}
use Rattle.theory.proofs.LateOfJobs.{Burst, Queue, late_core}
use Rattle.processor.specs.ProcessorDemand.{Regular, load_on, supply_on, above_on, demand_on}
use Rattle.processor.proofs.SamePlace.{same_place, all_places}
use Rattle.response.proofs.ArrivalLaws.{arrivals_gap, arrivals_mono}
use Rattle.witness.specs.Scenario.{above, scenario}
use Rattle.witness.proofs.ScenarioLaws.{above_yes, above_no, scenario_cost, scenario_many, scenario_ready}

-- the first jobs of the tasks above and own job n may run at tick u, where the window begins
module _
    (m : Processor) (r : Regular m) (s : Tasks) (k : ℕ → ℕ) (i base first n q w u : ℕ)
    (periods : (j : ℕ) → j < s.count → 1 ≤ s.period j)
    (costs : (j : ℕ) → j < s.count → 1 ≤ s.cost j)
    (kept : (j : ℕ) → j < s.count → k j ≤ s.jitter j)
    (hi : i < s.count)
    (above_from : base + r.pickup ≡ u)
    (own_from : first + gap (s.period i) (k i) n + r.pickup ≡ u)
  where
    abbrev l : List Release
    l = scenario s k i base first (n + q) w

    abbrev js : Jobs
    js = jobs_on m s k l

    -- job x of task j may run d_K(x) and the pickup after the first release of the task
    job_start
        : (j p : ℕ) → j < s.count → p < length l → (release_at l p).task ≡ j
        → js.start p ≡ above i base first j + gap (s.period j) (k j) (Model.place l p) + r.pickup
    job_start j p g h e = r.starts (ready_at s k l p) ∙ ap (λ (x : ℕ). x + r.pickup) (scenario_ready s k i base first (n + q) w kept j p g h e)

    -- a job takes its task's load
    job_work : (p : ℕ) → p < length l → js.work p ≡ load_on m s (release_at l p).task
    job_work p h = ap m.work (scenario_cost s k i base first (n + q) w p h)

    -- the tasks above bring all their arrivals from the start of the window on
    burst : Burst js i u w (load_on m s) (λ j. gap (s.period j) (k j)) (λ j. arrivals (s.period j) (k j))
    burst = record {
      enough = λ j t h a b.
          rw (all_places l j, scenario_many s k i base first (n + q) w j (omega arith), above_yes i (arrivals (s.period j) (k j) w) _ j h)
          (arrivals_mono (s.period j) (k j) (k j) t w (periods j (omega arith)) (omega arith) (omega arith));
      full = λ p h a. omega (arith, job_work p h);
      starts = λ p h a.
          rw (same_place l (release_at l p).task p h refl)
          (omega (arith, job_start (release_at l p).task p (omega arith) h refl, above_yes i base first (release_at l p).task a));
      counted = λ j t x h a b g. arrivals_gap (s.period j) (k j) (periods j (omega arith)) x t g;
    }

    -- own job x may run d_K(x) and the pickup after `first`
    own_start : (p : ℕ) → p < length l → (release_at l p).task ≡ i → js.start p ≡ first + gap (s.period i) (k i) (Model.place l p) + r.pickup
    own_start p h e = omega (arith, job_start i p hi h e, above_no i base first i (omega arith))

    -- the own jobs n .. n + q may run in the window
    queue : (h : Held l i (n + q)) → Queue js i h.at u n q (load_on m s)
    queue h = record {
      in_list = h.inside;
      own = h.of_task;
      places = same_place l i h.at h.inside h.of_task ∙ h.is;
      some_work = r.some_work (s.cost i) (costs i hi);
      not_before = λ p a e b.
          omega (
            arith,
            own_start p (omega arith) e,
            gap_mono (s.period i) (k i) n (Model.place l p) (rw (same_place l i p (omega arith) e) at b),
          );
      in_order = λ p a e b.
          omega (
            arith,
            r.starts (ready_at s k l p),
            r.starts (ready_at s k l h.at),
            ready_rising s k l i p h.at a h.inside e h.of_task,
          );
      own_full = λ p a e b. omega (arith, job_work p (omega arith), ap (load_on m s) e);
    }

    -- where no t below w meets the demand, the last own job is not finished at any tick before u + w
    pub not_finished
        : 1 ≤ w → ((t : ℕ) → 1 ≤ t → t < w → supply_on m u t < demand_on m s k i q t)
        → (h : Held l i (n + q)) (t : ℕ) → t < u + w → left_at js t h.at ≡ 0 → ⊥
    unfolding above_on demand_on
    not_finished a unmet h t b e =
        late_core js i h.at u w n q (load_on m s) (λ j. gap (s.period j) (k j)) (λ j. arrivals (s.period j) (k j)) burst (queue h) unmet (w - 1) (omega arith)
        (left_later js t (u + (w - 1)) h.at (omega arith) e)
