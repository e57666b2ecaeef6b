-- The releases of several tasks in one list: task by task and in each task's order, each is put in by its tick.
use Rattle.std.specs.Prelude.{ℕ, zero, suc, true, false, List, [], ◌∷◌, leb}
use Rattle.model.specs.Tasks.{Release}

-- a release put in behind those that are not after it
unfoldable pub insert : Release → List Release → List Release
insert r [] = r ∷ []
insert r (a ∷ l) = elim (leb a.tick r.tick) [ true ↦ a ∷ insert r l | false ↦ r ∷ a ∷ l ]

-- the x-th release of task k: its tick is rel k x, its cost is cost k
abbrev pub release_of : (ℕ → ℕ → ℕ) → (ℕ → ℕ) → ℕ → ℕ → Release
release_of rel cost k x = record { task = k; tick = rel k x; cost = cost k }

-- the first n releases of task k put in, in order
unfoldable pub with_task : (ℕ → ℕ → ℕ) → (ℕ → ℕ) → ℕ → ℕ → List Release → List Release
with_task rel cost k zero l = l
with_task rel cost k (suc n) l = insert (release_of rel cost k n) (with_task rel cost k n l)

-- the first many k releases of each task k below n
unfoldable pub merged : (ℕ → ℕ → ℕ) → (ℕ → ℕ) → (ℕ → ℕ) → ℕ → List Release
merged rel cost many zero = []
merged rel cost many (suc n) = with_task rel cost n (many n) (merged rel cost many n)
