-- The stops of the run that jumps (document 02, R-5).
use Rattle.std.specs.Prelude.{ℕ, ◌+◌, Bool, false, not, ◌||◌, List, [], ◌∷◌, ◌++◌, map, eqb}
use Rattle.model.specs.Series.{on}
use Rattle.model.specs.Tasks.{Tasks, Release}
use Rattle.model.specs.Ready.{ready_list}
use Rattle.model.specs.Run.{finish_list}

-- a number stands in a list
unfoldable pub has : List ℕ → ℕ → Bool
has [] x = false
has (y ∷ l) x = eqb x y || has l x

-- how many different numbers stand in a list: one that stands again further on is not counted here
unfoldable pub different : List ℕ → ℕ
different [] = 0
different (x ∷ l) = on (not (has l x)) 1 + different l

-- the ticks that are "a ready tick plus 1 or a finish"
unfoldable pub stop_ticks : Tasks → (ℕ → ℕ) → List Release → List ℕ
stop_ticks s k l = map (λ r. r + 1) (ready_list s k l) ++ finish_list s k l

-- "how often it stopped: the number of different ticks that are a ready tick plus 1 or a finish"
unfoldable pub stop_count : Tasks → (ℕ → ℕ) → List Release → ℕ
stop_count s k l = different (stop_ticks s k l)
