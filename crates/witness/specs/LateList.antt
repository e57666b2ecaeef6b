-- The list of releases that a late verdict promises, and the statement about it; proofs/LateLaw.antt proves it (`missed_on`).
use Rattle.std.specs.Prelude.{ℕ, suc, ◌+◌, ◌-◌, ◌*◌, ◌/◌, ◌≤◌, ◌<◌, ◌≡◌, true, false, List, leb}
use Rattle.model.specs.Processor.{Processor}
use Rattle.model.specs.Tasks.{Tasks, Release}
use Rattle.model.specs.Gap.{gap}
use Rattle.processor.specs.ProcessorDemand.{Regular}
use Rattle.processor.specs.ProcessorClaims.{LateOn, MissedOn}
use Rattle.witness.specs.Scenario.{scenario}

-- the own jobs before the window, x being J − qP: none where x ≤ K, for then the first own job may run as the window begins;
-- else so many that the release of the last one is held back by x − K
unfoldable pub lead_of : ℕ → ℕ → ℕ → ℕ → ℕ
lead_of P J K q = elim (leb J (q * P + K)) [ true ↦ 0 | false ↦ suc (J / P) ]

-- the own jobs before the window of task i's late q
abbrev pub lead_in : Tasks → (ℕ → ℕ) → ℕ → ℕ → ℕ
lead_in s k i q = lead_of (s.period i) (s.jitter i) (k i) q

-- the first release of the tasks above: with this pickup their first jobs may run as the window begins, at tick `from`
abbrev pub base_of : ℕ → ℕ → ℕ
base_of pickup from = from - pickup

-- the first own release: own job n is ready with theirs
abbrev pub first_own : Tasks → (ℕ → ℕ) → ℕ → ℕ → ℕ → ℕ
first_own s k i base n = base - gap (s.period i) (k i) n

-- the list for a q of task i, in a window of w ticks that begins at `from`
abbrev pub late_list : ℕ → Tasks → (ℕ → ℕ) → ℕ → ℕ → ℕ → ℕ → List Release
late_list pickup s k i q w from =
    scenario s k i (base_of pickup from) (first_own s k i (base_of pickup from) (lead_in s k i q)) (lead_in s k i q + q) w

-- a late q has this list: every task's releases are legal, no tick is after the given one, and in its run a job of task i is not finished D ticks after its release.
-- Periods and costs are at least 1 and the kept jitters at most J; no other limit of the task set is used
abbrev pub LateShown : Type 0
LateShown =
    (m : Processor) (r : Regular m) (s : Tasks) → ((j : ℕ) → j < s.count → 1 ≤ s.period j) → ((j : ℕ) → j < s.count → 1 ≤ s.cost j)
    → (k : ℕ → ℕ) → ((j : ℕ) → j < s.count → k j ≤ s.jitter j) → (i : ℕ) → i < s.count
    → (d : LateOn m r s k i) → (x : MissedOn m s k i (d.from + d.w + s.jitter i + s.period i + d.q * s.period i))
    × (x.list ≡ late_list r.pickup s k i d.q d.w d.from)
