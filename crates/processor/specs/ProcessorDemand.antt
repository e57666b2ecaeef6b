-- What the mathematics leaves open of a processor: pickup, load and supply.
use Rattle.std.specs.Prelude.{ℕ, suc, ◌+◌, ◌*◌, ◌≤◌, ◌≡◌}
use Rattle.model.specs.Series.{sum}
use Rattle.model.specs.Frame.{supply}
use Rattle.model.specs.Processor.{Processor}
use Rattle.model.specs.Tasks.{Tasks}
use Rattle.model.specs.Arrival.{arrivals}

-- "pickup": the ticks from its ready tick to the first in which a job may run, the same for every job. More cost takes no less work, and some cost takes some
pub record Regular (m : Processor) : Type 0 where
  pub pickup : ℕ
  pub starts : (ready : ℕ) → m.start ready ≡ ready + pickup
  pub rises : (c d : ℕ) → c ≤ d → m.work c ≤ m.work d
  pub some_work : (c : ℕ) → 1 ≤ c → 1 ≤ m.work c

-- "load": the ticks that a job of full cost takes
abbrev pub load_on : Processor → Tasks → ℕ → ℕ
load_on m s j = m.work (s.cost j)

-- "supply": the ticks of ours among the t from u on
abbrev pub supply_on : Processor → ℕ → ℕ → ℕ
supply_on m = supply m.ours

-- the sum over the tasks above i of load × σ(t), with kept jitters k
unfoldable pub above_on : Processor → Tasks → (ℕ → ℕ) → ℕ → ℕ → ℕ
above_on m s k i t = sum (λ j. load_on m s j * arrivals (s.period j) (k j) t) i

-- the demand in t ticks: q + 1 own jobs and what the tasks above bring
unfoldable pub demand_on : Processor → Tasks → (ℕ → ℕ) → ℕ → ℕ → ℕ → ℕ
demand_on m s k i q t = suc q * load_on m s i + above_on m s k i t
