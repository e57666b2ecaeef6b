-- The jobs of a trace on a processor: what the laws of any run ask of them.
use Prim.Native.Nat.{ℕ, ◌≤◌, ◌<◌}
use mathlib.Core.Path.{◌≡◌}
use mathlib.Core.List.{List}
use native.Mathlib.Omega.{arith}
use lib.ListN.{length}
use Rattle.model.specs.Processor.{Processor}
use Rattle.model.specs.Tasks.{Tasks, Release, release_at}
use Rattle.model.specs.Arrival.{arrivals}
use Rattle.model.specs.Gap.{gap}
use Rattle.model.specs.Ready.{ready_at}
use Rattle.model.specs.Run.{jobs_on}
use Rattle.model.specs.Claims.{Trace}
use Rattle.shaper.proofs.GapLaws.{gap_zero}
use Rattle.trace.proofs.ReadyAtLaws.{ready_gap}
use Rattle.theory.proofs.JobWindows.{Spaced, Bounded}
use Rattle.response.proofs.ArrivalLaws.{gap_arrivals}
use Rattle.processor.specs.ProcessorDemand.{Regular, load_on}
use Rattle.processor.proofs.SamePlace.{same_place}

module _ (m : Processor) (r : Regular m) (s : Tasks) (k : ℕ → ℕ) (l : List Release) where
  -- the jobs of a task keep its gaps
  pub spaced : (i : ℕ) → Spaced (jobs_on m s k l) i (gap (s.period i) (k i))
  spaced i a b h g ea eb =
      rw (same_place l i a (omega arith) ea, same_place l i b g eb, r.starts (ready_at s k l a), r.starts (ready_at s k l b))
      (omega (arith, ready_gap s k l i a b (omega arith) g ea eb))

  module _ (tr : Trace s l) where
    -- every job has work, and no more than a job of full cost
    pub some_work : (p : ℕ) → p < length l → 1 ≤ (jobs_on m s k l).work p
    some_work p h = r.some_work (release_at l p).cost (tr.sound p h).cost_low

    pub own_work : (i p : ℕ) → p < length l → (release_at l p).task ≡ i → (jobs_on m s k l).work p ≤ load_on m s i
    own_work i p h e = r.rises (release_at l p).cost (s.cost i) (rw e at (tr.sound p h).cost_high)

    -- the tasks above i
    pub bounded
        : (i : ℕ) → ((j : ℕ) → j < i → 1 ≤ s.period j)
        → Bounded (jobs_on m s k l) i (load_on m s) (λ j. gap (s.period j) (k j)) (λ j. arrivals (s.period j) (k j))
    bounded i h = record {
      most_work = λ p g _. r.rises (release_at l p).cost (s.cost (release_at l p).task) (tr.sound p g).cost_high;
      spaced = λ j _. spaced j;
      zero_gap = λ j _. gap_zero (s.period j) (k j);
      counted = λ j n x g. gap_arrivals (s.period j) (k j) (h j g) x n;
    }
