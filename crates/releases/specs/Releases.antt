-- A release of three numbers.
use Rattle.std.specs.Prelude.{ℕ}
use Rattle.model.specs.Tasks.{Release}

abbrev pub release : ℕ → ℕ → ℕ → Release
release task tick cost = record { task = task; tick = tick; cost = cost }
