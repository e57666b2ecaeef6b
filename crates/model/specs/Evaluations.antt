-- How often demand is worked out (document 02, R-8).
use Rattle.std.specs.Prelude.{ℕ, zero, suc, ◌+◌, ◌*◌, Bool, ◌||◌, List, length, eqb, ltb}
use Rattle.std.proofs.Math.Option.{some, none}
use Rattle.model.specs.Search.{first}
use Rattle.model.specs.Series.{sum, table}
use Rattle.model.specs.Limits.{horizon_tick}
use Rattle.model.specs.Tasks.{Tasks, load}
use Rattle.model.specs.Demand.{demand}
use Rattle.model.specs.Verdict.{Verdict, stops, verdict}

-- the t that the search for W(q) tries one after the other: it starts "from (q + 1) × E plus one E of each task above, S added to each E",
-- and goes "on with the demand just found"
unfoldable pub tried_at : Tasks → (ℕ → ℕ) → ℕ → ℕ → ℕ → ℕ
tried_at s k i q zero = suc q * load s i + sum (load s) i
tried_at s k i q (suc m) = demand s k i q (tried_at s k i q m)

-- where it ends: the demand just found "equals t, or t is over H"
unfoldable pub ends_at : Tasks → (ℕ → ℕ) → ℕ → ℕ → ℕ → Bool
ends_at s k i q m = eqb (tried_at s k i q (suc m)) (tried_at s k i q m) || ltb horizon_tick (tried_at s k i q m)

-- "that list of t, a last t over H counted too". (Its members rise, so it ends after H + 1 of them at the latest.)
unfoldable pub tried : Tasks → (ℕ → ℕ) → ℕ → ℕ → List ℕ
tried s k i q = table (tried_at s k i q) (elim (first (ends_at s k i q) (suc horizon_tick) 0) [ none ↦ suc horizon_tick | some m ↦ suc m ])

-- how many q the verdict takes: 0, 1, .. up to the first at which it stops, that one included
unfoldable pub taken : Tasks → (ℕ → ℕ) → ℕ → ℕ
taken s k i = elim (first (stops s k i) (suc horizon_tick) 0) [ none ↦ suc horizon_tick | some q ↦ suc q ]

-- how many count for one q: the length of its list, and none with a frame ("with one, its number is 0": document 02, R-10)
unfoldable pub counted_at : Tasks → (ℕ → ℕ) → ℕ → ℕ → ℕ
counted_at s k i q = elim s.frame [ none ↦ length (tried s k i q) | some f ↦ 0 ]

-- "the number of evaluations": the lengths of the lists, "added up over the q that the verdict took"
unfoldable pub evaluations : Tasks → (ℕ → ℕ) → ℕ → ℕ
evaluations s k i = sum (counted_at s k i) (taken s k i)

-- what the call "verdict" answers: the verdict, and the number of its evaluations
pub record Judged : Type 0 where
  pub says : Verdict
  pub evaluations : ℕ

abbrev pub judged : Tasks → (ℕ → ℕ) → ℕ → Judged
judged s k i = record { says = verdict s k i; evaluations = evaluations s k i }
