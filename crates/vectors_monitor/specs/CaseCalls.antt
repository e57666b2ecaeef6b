-- The calls that a case makes on its window.
use Rattle.std.specs.Prelude.{ℕ, min, Bool, true, false, List, [], ◌∷◌, ◌++◌, length, get_or}
use Rattle.model.specs.Series.{table}
use Rattle.model.specs.Tasks.{Tasks}
use Rattle.model.specs.LastJobs.{WindowCall, open_on, finished}

-- an opening, where there is one
unfoldable pub open_calls : Bool → Tasks → List WindowCall
open_calls opened s = elim opened [ true ↦ open_on s ∷ [] | false ↦ [] ]

-- the finished jobs of two columns, tasks and responses: as many as the shorter one has
unfoldable pub job_calls : List ℕ → List ℕ → List WindowCall
job_calls t r = table (λ i. finished (record { task = get_or t i 0; response = get_or r i 0 })) (min (length t) (length r))

-- both, in this order
abbrev pub part_calls : Bool → Tasks → List ℕ → List ℕ → List WindowCall
part_calls opened s t r = open_calls opened s ++ job_calls t r
