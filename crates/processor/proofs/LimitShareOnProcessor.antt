-- Limit and share on any processor: what a task may take, and what the tasks above leave over, in the run of any trace.
use Prim.Native.Nat.{ℕ, ◌≤◌, ◌<◌}
use mathlib.Core.List.{List}
use Rattle.model.specs.Processor.{Processor}
use Rattle.model.specs.Tasks.{Tasks, Release}
use Rattle.model.specs.Arrival.{arrivals}
use Rattle.model.specs.Gap.{gap}
use Rattle.model.specs.Run.{jobs_on}
use Rattle.model.specs.Claims.{Trace}
use Rattle.shaper.proofs.GapLaws.{gap_zero}
use Rattle.theory.proofs.LimitOfJobs.{limit_core, share_core}
use Rattle.response.proofs.ArrivalLaws.{gap_arrivals}
use Rattle.processor.specs.ProcessorDemand.{Regular, load_on, above_on}
use Rattle.processor.specs.ProcessorClaims.{LimitOn, ShareOn}
use Rattle.processor.proofs.JobLaws.{spaced, own_work, bounded}

module _ (m : Processor) (r : Regular m) (s : Tasks) (k : ℕ → ℕ) (i : ℕ) (l : List Release) (tr : Trace s l) where
  -- limit, for a task with a period
  pub limit_on : 1 ≤ s.period i → LimitOn m s k i l
  limit_on h u t clear =
      limit_core (jobs_on m s k l) i (load_on m s i) (gap (s.period i) (k i)) (arrivals (s.period i) (k i) t) u t
      (own_work m r s k l tr i)
      (spaced m r s k l i)
      (gap_zero (s.period i) (k i))
      (λ n. gap_arrivals (s.period i) (k i) h n t)
      clear

  -- share, where the tasks above have periods
  pub share_on : ((j : ℕ) → j < i → 1 ≤ s.period j) → ShareOn m s k i l
  unfolding above_on
  share_on h u t n g clear =
      share_core (jobs_on m s k l) i (load_on m s) (λ j. gap (s.period j) (k j)) (λ j. arrivals (s.period j) (k j))
      (bounded m r s k l tr i h) u t n g clear
