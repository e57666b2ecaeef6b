-- Demand 3 as one statement; proofs/Demand3.antt proves it (`demand3`).
use Rattle.std.specs.Prelude.{ℕ, ◌≤◌, ◌<◌}
use Rattle.model.specs.Tasks.{Tasks, Valid}
use Rattle.model.specs.Claims.{Demand3}

-- every task of a task set within the limits, with kept jitters up to the tasks' jitters. `Demand3` (model, Claims) is about every trace of any length:
-- limit and share hold in its run, a verdict of "fits" is kept by it where the task's own releases are legal, and one of "late" is shown by some trace, all legal
abbrev pub Demand3Holds : Type 0
Demand3Holds =
    (s : Tasks) → Valid s → (k : ℕ → ℕ) → ((j : ℕ) → j < s.count → k j ≤ s.jitter j)
    → (i : ℕ) → i < s.count → Demand3 s k i
