-- How demand, W(q), R(q), the end of the walk and the verdict of a task move with the kept jitters (document 02, R-13). proofs/LessAboveLaws.antt,
-- proofs/LessOwnLaws.antt and proofs/PastStop.antt prove the statements (`less_above`, `less_own`, `past_stop`).
use Rattle.std.specs.Prelude.{ℕ, suc, ◌+◌, ◌≤◌, ◌<◌, ◌≡◌, true, ◌≤ℤ◌}
use Rattle.std.proofs.Math.Option.{some}
use Rattle.model.specs.Tasks.{Tasks, Valid}
use Rattle.model.specs.Demand.{demand, window}
use Rattle.model.specs.Verdict.{Verdict, horizon, late, fits, bound_of, is_last, bound_at, verdict}
use Rattle.model.specs.Evaluations.{taken}
use Rattle.model.specs.Choice.{is_fits, worst_of}

-- kept jitters k and k' for task i: no more for each task above it, and the same for the task itself
pub record LessAbove (k k' : ℕ → ℕ) (i : ℕ) : Type 0 where
  pub above : (j : ℕ) → j < i → k j ≤ k' j
  pub own : k i ≡ k' i

-- a task is no worse off with k than with k'
pub record NoWorse (s : Tasks) (k k' : ℕ → ℕ) (i : ℕ) : Type 0 where
  -- no larger demand
  pub demands : (q t : ℕ) → demand s k i q t ≤ demand s k' i q t
  -- no larger W(q), and one wherever k' has one
  pub windows : (q w : ℕ) → window s k' i q ≡ some w → (v : ℕ) × (window s k i q ≡ some v) × (v ≤ w)
  -- no larger R(q)
  pub bounds : (q w : ℕ) → window s k' i q ≡ some w → bound_at s k i q ≤ℤ bound_at s k' i q
  -- where W(q) ≤ d_K(q + 1) ends the walk with k', it ends it with k
  pub ends : (q v w : ℕ) → window s k i q ≡ some v → window s k' i q ≡ some w → is_last s k' i q w ≡ true → is_last s k i q v ≡ true
  -- a task that fits stays fitting, ..
  pub fit : is_fits (verdict s k' i) ≡ true → is_fits (verdict s k i) ≡ true
  -- .. its walk takes no more q, ..
  pub sooner : is_fits (verdict s k' i) ≡ true → taken s k i ≤ taken s k' i
  -- .. and its largest R is no larger
  pub worst : is_fits (verdict s k' i) ≡ true → worst_of (verdict s k i) ≤ℤ worst_of (verdict s k' i)

-- "smaller kept jitters above"
abbrev pub LessAboveIsNoWorse : Type 0
LessAboveIsNoWorse = (s : Tasks) → Valid s → (k k' : ℕ → ℕ) (i : ℕ) → i < s.count → LessAbove k k' i → NoWorse s k k' i

-- kept jitters k and k' for task i: the same for each task above it, and no more for the task itself
pub record LessOwn (k k' : ℕ → ℕ) (i : ℕ) : Type 0 where
  pub above : (j : ℕ) → j < i → k j ≡ k' j
  pub own : k i ≤ k' i

-- the order in which the verdicts stand over a task's own K
unfoldable pub stage : Verdict → ℕ
stage (late q r) = 0
stage (fits r q) = 1
stage (horizon q) = 2

-- what a smaller own K gives a task
pub record OwnOrder (s : Tasks) (k k' : ℕ → ℕ) (i : ℕ) : Type 0 where
  -- the same W(q)
  pub windows : (q : ℕ) → window s k i q ≡ window s k' i q
  -- no smaller R(q)
  pub bounds : (q : ℕ) → bound_at s k' i q ≤ℤ bound_at s k i q
  -- where W(q) ≤ d_K(q + 1) ends the walk with k', it ends it with k
  pub ends : (q w : ℕ) → is_last s k' i q w ≡ true → is_last s k i q w ≡ true
  -- as K rises the verdicts are late, then fits, then horizon
  pub stages : stage (verdict s k i) ≤ stage (verdict s k' i)

abbrev pub LessOwnIsOrdered : Type 0
LessOwnIsOrdered = (s : Tasks) → Valid s → (k k' : ℕ → ℕ) (i : ℕ) → i < s.count → LessOwn k k' i → OwnOrder s k k' i

-- past a q at which W(q) ≤ d_K(q + 1) may end the walk no larger R is met: R(a + 1 + b) ≤ R(b)
abbrev pub PastStop : Type 0
PastStop =
    (s : Tasks) → Valid s → (k : ℕ → ℕ) (i : ℕ) → i < s.count → (a b u v w : ℕ)
    → window s k i a ≡ some u → is_last s k i a u ≡ true → window s k i b ≡ some v → window s k i (suc a + b) ≡ some w
    → bound_of s k i (suc a + b) w ≤ℤ bound_of s k i b v
