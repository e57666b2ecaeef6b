-- Demand 3 on any processor as one statement; proofs/OnProcessor.antt proves it (`demand_on_lem`).
use Rattle.std.specs.Prelude.{ℕ, ◌≤◌, ◌<◌}
use Rattle.model.specs.Processor.{Processor}
use Rattle.model.specs.Tasks.{Tasks}
use Rattle.processor.specs.ProcessorDemand.{Regular}
use Rattle.processor.specs.ProcessorClaims.{DemandOn}

-- every processor with a fixed pickup, any load that rises with the cost and any ticks of ours; every task of a task set whose tasks have a period and a cost,
-- with kept jitters up to the tasks' jitters
abbrev pub DemandOnHolds : Type 0
DemandOnHolds =
    (m : Processor) (r : Regular m) (s : Tasks) → ((j : ℕ) → j < s.count → 1 ≤ s.period j) → ((j : ℕ) → j < s.count → 1 ≤ s.cost j)
    → (k : ℕ → ℕ) → ((j : ℕ) → j < s.count → k j ≤ s.jitter j)
    → (i : ℕ) → i < s.count → DemandOn m r s k i
