-- The list of all small traces (document 02, R-12): each trace is extended one release deeper until the count is reached.
use Rattle.std.specs.Prelude.{ℕ, zero, suc, ◌-◌, ◌*◌, ◌/◌, ◌%◌, Bool, true, false, List, [], ◌∷◌, ◌++◌, reverse, leb}
use Rattle.model.specs.Tasks.{Tasks, Release}
use Rattle.model.specs.Gap.{own}
use Rattle.model.specs.Ready.{after}

-- the pairs (tick, task) are numbered "by tick, then task": with n tasks, pair x is tick x ÷ n and task x mod n. Its release has "full cost"
abbrev pub pair_release : Tasks → ℕ → Release
pair_release s x = record { task = x % s.count; tick = x / s.count; cost = s.cost (x % s.count) }

-- the release r may follow the releases l: it lies at least d_J(k) after the release of its task k places before, for every k
unfoldable pub may_follow : Tasks → List Release → Release → Bool
may_follow s l r = leb (after (s.period r.task) (s.jitter r.task) (reverse (own r.task l)) 1) r.tick

-- f x ++ f (x + 1) ++ .., so many lists
unfoldable pub joined : {A : Type 0} → (ℕ → List A) → ℕ → ℕ → List A
joined f x zero = []
joined f x (suc m) = f x ++ joined f (suc x) m

-- the traces that have the releases l first and then n more, none of them before pair x, of b pairs in all: l is extended by each pair that may follow,
-- from x on, and each such trace is extended further, from that same pair on
unfoldable pub extended : Tasks → ℕ → ℕ → ℕ → List Release → List (List Release)
extended s b zero x l = l ∷ []
extended s b (suc n) x l =
    joined (λ y. elim (may_follow s l (pair_release s y)) [ true ↦ extended s b n y (l ++ (pair_release s y ∷ [])) | false ↦ [] ]) x (b - x)

-- the small traces of n releases with ticks below t
unfoldable pub traces_of : Tasks → ℕ → ℕ → List (List Release)
traces_of s t n = extended s (t * s.count) n 0 []

-- the small traces of up to n releases with ticks below t: "fewer releases come first"
unfoldable pub small_traces : Tasks → ℕ → ℕ → List (List Release)
small_traces s n t = joined (traces_of s t) 0 (suc n)
