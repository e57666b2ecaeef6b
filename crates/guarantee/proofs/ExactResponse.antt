-- "Response is finish − release": the difference is exact, since a job finishes after it may run, may run not before it is ready, and is ready not before its release.
use Prim.Native.Nat.{ℕ, ◌+◌, ◌<◌}
use mathlib.Core.Path.{◌≡◌, refl}
use mathlib.Core.List.{List}
use native.Mathlib.Omega.{arith}
use lib.ListN.{length}
use Rattle.model.specs.Tasks.{Tasks, Release, release_at}
use Rattle.model.specs.Run.{jobs, finish_at, response_at}
use Rattle.model.specs.Claims.{Trace}
use Rattle.trace.proofs.ReadyAtLaws.{ready_from_lem}
use Rattle.theory.proofs.FinishLaws.{finish_late}
use Rattle.processor.specs.FinishBound.{Framed}
use Rattle.guarantee.proofs.BoardRun.{served, works}

module _ (s : Tasks) (v : Framed s) (k : ℕ → ℕ) (l : List Release) (tr : Trace s l) (p : ℕ) (h : p < length l) where
  -- a job finishes after the first tick in which it may run
  pub start_first : (jobs s k l).start p < finish_at s k l p
  unfolding finish_at
  start_first = finish_late (jobs s k l) (served s v k l) p h (works s k l tr p h)

  -- release and response together are the finish
  pub response_exact : (release_at l p).tick + response_at s k l p ≡ finish_at s k l p
  unfolding response_at
  response_exact = omega (arith, start_first, ready_from_lem s k l (release_at l p).task p h refl)
