-- What a verdict says.
use Rattle.std.specs.Prelude.{ℕ, suc, ◌≤◌, ◌≡◌, true, false}
use Rattle.std.proofs.Math.Option.{some}
use Rattle.model.specs.Tasks.{Tasks}
use Rattle.model.specs.Gap.{gap}
use Rattle.model.specs.Demand.{window}
use Rattle.model.specs.Verdict.{is_late}

-- q is passed by the walk: it has a W(q) and is not late
pub record Passed (s : Tasks) (k : ℕ → ℕ) (i q : ℕ) : Type 0 where
  pub w : ℕ
  pub is : window s k i q ≡ some w
  pub in_time : is_late s k i q w ≡ false

-- the walk ends at last, and no q up to it is late
pub record Walked (s : Tasks) (k : ℕ → ℕ) (i : ℕ) : Type 0 where
  pub last : ℕ
  pub passed : (q : ℕ) → q ≤ last → Passed s k i q
  pub ends : (w : ℕ) → window s k i last ≡ some w → w ≤ gap (s.period i) (k i) (suc last)

-- q is late
pub record Missing (s : Tasks) (k : ℕ → ℕ) (i q : ℕ) : Type 0 where
  pub w : ℕ
  pub is : window s k i q ≡ some w
  pub over : is_late s k i q w ≡ true
