-- The grid of a sheet: its traces are those of the sheet, and the generator may search them.
use Prim.Native.Nat.{ℕ, zero, suc, ◌+◌, ◌*◌, ◌≤◌, ◌<◌}
use mathlib.Core.Path.{◌≡◌, refl, ap, ◌∙◌}
use mathlib.Core.List.{List, []}
use native.Mathlib.Omega.{arith}
use native.Mathlib.Nat.{mul-le-mul}
use native.Mathlib.Numerals.{add-one}
use lib.ListN.{get_or}
use Rattle.taskset.specs.declared.TaskSet.{TaskSet}
use Rattle.taskset.specs.TaskSet.{entry_of, view_of}
use Rattle.releases.proofs.ReleaseLaws.{Columns}
use Rattle.generator.specs.declared.Timing.{Timing}
use Rattle.generator.specs.declared.Grid.{Grid}
use Rattle.generator.specs.Generator.{no_timing, grid_tasks, Seekable}
use Rattle.enumeration.specs.SmallTraces.{joined, extended, traces_of, small_traces}
use Rattle.enumeration.proofs.SameTraces.{small_alike}
use Rattle.smalltraces.specs.SmallAnswers.{timing_of, grid_for}
use Rattle.enumeration.proofs.FaultLaws.{Passed}

-- at most 36 pairs
pub few_pairs : (t n : ℕ) → t ≤ 12 → n ≤ 3 → t * n ≤ 36
few_pairs t n h k = mul-le-mul {n₁ = t} {m₁ = n} {n₂ = 12} {m₂ = 3} h k

module _ (s : TaskSet) (t : ℕ) (few : s.count ≤ 3) where
  timing : (i : ℕ) → i < 3 → get_or (grid_for s t).timings i no_timing ≡ timing_of (entry_of s i)
  timing zero h = refl
  timing (suc zero) h = refl
  timing (suc (suc zero)) h = refl
  timing (suc (suc (suc i))) h = absurd (omega arith)

  same : (n : ℕ) → joined (λ k. extended (grid_tasks (grid_for s t)) (grid_for s t).pairs k 0 []) 0 (n + 1) ≡ small_traces (view_of s) n t
  unfolding small_traces traces_of
  same n =
      ap (joined (λ k. extended (grid_tasks (grid_for s t)) (grid_for s t).pairs k 0 []) 0) (add-one n)
      ∙ small_alike (grid_tasks (grid_for s t)) (view_of s)
      (record {
        count = refl;
        period = λ i h. ap (λ (x : Timing). x.period) (timing i (omega arith));
        jitter = λ i h. ap (λ (x : Timing). x.jitter) (timing i (omega arith));
        cost = λ i h. ap (λ (x : Timing). x.cost) (timing i (omega arith));
      }) n t

  -- the traces of the grid, count after count, are the small traces of the sheet
  pub grid_all : (g : Grid) → g ≡ grid_for s t → (n : ℕ) → joined (λ k. extended (grid_tasks g) g.pairs k 0 []) 0 (n + 1) ≡ small_traces (view_of s) n t
  grid_all g e n = ap (λ (x : Grid). joined (λ k. extended (grid_tasks x) x.pairs k 0 []) 0 (n + 1)) e ∙ same n

-- a call that passed its checks, with rows of 6 places
pub grid_seekable
    : (s : TaskSet) (n t : ℕ) (task tick cost : List ℕ) → Passed (view_of s) n t → Columns 6 task tick cost → Seekable (grid_for s t) n 0 task tick cost
grid_seekable s n t task tick cost q c =
    record {
      some_task = q.some_task;
      few_tasks = q.few_tasks;
      few_pairs = few_pairs t s.count q.few_ticks q.few_tasks;
      room = q.few_releases;
      task_long = omega (arith, q.few_releases, c.task_long);
      tick_long = omega (arith, q.few_releases, c.tick_long);
      cost_long = omega (arith, q.few_releases, c.cost_long);
      near = λ p h. absurd (omega arith);
    }
