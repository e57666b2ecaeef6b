-- The run of a sheet's list: every turn of the frame has a tick of ours, so a job is finished at a tick exactly where its finish is not over it.
use Prim.Native.Nat.{ℕ, ◌≤◌, ◌<◌}
use mathlib.Core.Path.{◌≡◌}
use mathlib.Core.Bool.{Bool}
use mathlib.Core.List.{List}
use lib.ListN.{length}
use Rattle.model.specs.Tasks.{Tasks, board_of, Release}
use Rattle.model.specs.Run.{jobs, left_at, finish_at}
use Rattle.model.specs.Claims.{Trace, Finished}
use Rattle.model.proofs.FrameLaws.{turn_served}
use Rattle.theory.proofs.JobWindows.{Served}
use Rattle.theory.specs.Windows.{Clear}
use Rattle.theory.proofs.FinishLaws.{finish_done, finish_by}
use Rattle.processor.specs.FinishBound.{Framed}
use Rattle.processor.proofs.BoardDemand.{regular_of}
use Rattle.processor.proofs.JobLaws.{some_work}

-- every job takes some work
pub works : (s : Tasks) (k : ℕ → ℕ) (l : List Release) → Trace s l → (p : ℕ) → p < length l → 1 ≤ (jobs s k l).work p
works s = some_work (board_of s) (regular_of s) s

module _ (s : Tasks) (v : Framed s) (k : ℕ → ℕ) (l : List Release) where
  -- every turn has a tick of ours
  pub served : Served (jobs s k l)
  served = turn_served s.frame v

  module _ (tr : Trace s l) (p : ℕ) (h : p < length l) (t : ℕ) where
    -- a job whose finish is not over t has no work left at t
    pub none_left : finish_at s k l p ≤ t → left_at (jobs s k l) t p ≡ 0
    unfolding finish_at
    none_left = finish_done (jobs s k l) served p h (works s k l tr p h) t

    -- and back
    pub finished_by : left_at (jobs s k l) t p ≡ 0 → finish_at s k l p ≤ t
    unfolding finish_at
    finished_by = finish_by (jobs s k l) served p h (works s k l tr p h) t

  -- jobs that are finished have nothing left
  pub clear : Trace s l → (us : ℕ → Bool) (u : ℕ) → Finished s k l us u → Clear (jobs s k l) us u
  clear tr us u f p h e g = none_left tr p h u (f p h e g)
