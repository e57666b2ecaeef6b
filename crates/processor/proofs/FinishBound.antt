-- A bound of every finish of the run of a list.
use Prim.Native.Nat.{ℕ, ◌+◌, ◌-◌, ◌*◌, ◌≤◌, ◌<◌}
use mathlib.Core.Path.{refl}
use mathlib.Core.List.{List}
use native.Mathlib.Nat.{mul-le-mul}
use native.Mathlib.Omega.{arith}
use lib.ListN.{length}
use Rattle.model.specs.Processor.{pickup}
use Rattle.model.specs.Tasks.{Tasks, load, Release, release_at}
use Rattle.model.proofs.FrameLaws.{turn_served}
use Rattle.model.specs.Ready as Model
use Rattle.model.specs.Run.{jobs, finish_at}
use Rattle.model.specs.Claims.{Trace}
use Rattle.shaper.proofs.GapLaws.{gap_le}
use Rattle.trace.proofs.ReadyAtLaws.{Since, ready_at_closed}
use Rattle.theory.proofs.JobWindows.{place}
use Rattle.theory.proofs.EndLaws.{start_high, finish_high}
use Rattle.processor.specs.FinishBound.{FinishBounded}
use Rattle.processor.proofs.SamePlace.{same_place}

-- a list whose releases are at tick T or before, of tasks whose period and load are at most X
module _ (s : Tasks) (k : ℕ → ℕ) (l : List Release) (tr : Trace s l) (T X : ℕ)
    (ticks : (p : ℕ) → p < length l → (release_at l p).tick ≤ T) (small : (i : ℕ) → i < s.count → (s.period i ≤ X) × (load s i ≤ X)) where
  -- a ready tick is at most T and X for each earlier release of the task
  pub ready_bound : (p : ℕ) → p < length l → Model.ready_at s k l p ≤ T + X * place (λ n. (release_at l n).task) (release_at l p).task p
  ready_bound p h = go (ready_at_closed s k l (release_at l p).task p h refl)
    where
      go : Since s k l (release_at l p).task p → Model.ready_at s k l p ≤ T + X * place (λ n. (release_at l n).task) (release_at l p).task p
      go c =
          rw (same_place l (release_at l p).task p h refl)
          (omega (
            arith,
            c.is,
            ticks c.from (omega (arith, c.not_after)),
            gap_le (s.period (release_at l p).task) (k (release_at l p).task) (Model.place l p - Model.place l c.from),
            mul-le-mul {n₁ = Model.place l p - Model.place l c.from} {n₂ = Model.place l p} (omega arith) (small (release_at l p).task (tr.sound p h).known).0,
          ))

-- every finish is at most T, the pickup, and X turns for each release
pub finish_bound : FinishBounded
unfolding finish_at
finish_bound s v k l tr T X ticks small p h =
    omega (
      arith,
      finish_high (jobs s k l) (T + pickup) X (turn_served s.frame v) work_le (start_high (jobs s k l) (T + pickup) X start_le) p h
          (omega (arith, (tr.sound p h).cost_low)),
    )
  where
    start_le : (q : ℕ) → q < length l → (jobs s k l).start q ≤ T + pickup + X * place (λ n. (release_at l n).task) (release_at l q).task q
    start_le q g = omega (arith, ready_bound s k l tr T X ticks small q g)

    work_le : (q : ℕ) → q < length l → (jobs s k l).work q ≤ X
    work_le q g = omega (arith, (tr.sound q g).cost_high, (small (release_at l q).task (tr.sound q g).known).1)
