-- "After the last finish its ticks go on, idle": the statement; proofs/IdleLaws.antt proves it (`idle_from`), and that a job runs in the tick before (`busy_last`).
use Rattle.std.specs.Prelude.{ℕ, ◌≤◌, ◌≡◌, List, length}
use Rattle.std.proofs.Math.Option.{none}
use Rattle.model.specs.Series.{most}
use Rattle.model.specs.Tasks.{Tasks, Release}
use Rattle.model.specs.Run.{jobs, runs, finish_at}
use Rattle.model.specs.Claims.{Trace}
use Rattle.processor.specs.FinishBound.{Framed}

-- from the last finish on, no job runs in any tick
abbrev pub IdleAfterLast : Type 0
IdleAfterLast =
    (s : Tasks) → Framed s → (k : ℕ → ℕ) (l : List Release) → Trace s l → (t : ℕ) → most (finish_at s k l) (length l) ≤ t → runs (jobs s k l) t ≡ none
