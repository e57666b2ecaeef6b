-- A list of releases by value, and what the definitions say of it.
use Rattle.std.specs.Prelude.{ℕ, List}
use Rattle.releases.specs.declared.Releases.{Releases}

-- a function of the definitions, which takes a count and three columns, at this list
abbrev pub over {ℓ} : {R : Type ℓ} → (ℕ → List ℕ → List ℕ → List ℕ → R) → Releases → R
over f l = f l.count l.task.now l.tick.now l.cost.now
