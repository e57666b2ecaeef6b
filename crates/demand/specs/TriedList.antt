-- The list of t for one q (document 02, R-8): what is promised of it. proofs/TriedListLaws.antt proves it (`tried_list`, `evaluations_few`).
use Rattle.std.specs.Prelude.{ℕ, suc, ◌+◌, ◌-◌, ◌*◌, ◌≤◌, ◌<◌, ◌≡◌, length, get_or}
use Rattle.std.proofs.Math.Option.{some, none}
use Rattle.model.specs.Series.{sum}
use Rattle.model.specs.Limits.{horizon_tick}
use Rattle.model.specs.Tasks.{Tasks, Valid, load}
use Rattle.model.specs.Arrival.{arrivals}
use Rattle.model.specs.Demand.{demand, window}
use Rattle.model.specs.Evaluations.{tried, evaluations}

-- the σ_j at t, added up over the tasks above i
abbrev pub arrivals_above : Tasks → (ℕ → ℕ) → ℕ → ℕ → ℕ
arrivals_above s k i t = sum (λ j. arrivals (s.period j) (k j) t) i

-- the member of the list at a place, and the last one
abbrev pub member_at : Tasks → (ℕ → ℕ) → ℕ → ℕ → ℕ → ℕ
member_at s k i q m = get_or (tried s k i q) m 0

abbrev pub last_of : Tasks → (ℕ → ℕ) → ℕ → ℕ → ℕ
last_of s k i q = member_at s k i q (length (tried s k i q) - 1)

pub record TriedList (s : Tasks) (k : ℕ → ℕ) (i q : ℕ) : Type 0 where
  -- a first member: (q + 1) × (E + S) and one E + S of each task above
  pub some_there : 1 ≤ length (tried s k i q)
  pub starts : member_at s k i q 0 ≡ suc q * load s i + sum (load s) i
  -- the next one is the demand in the one before, which is within H
  pub next : (m : ℕ) → suc m < length (tried s k i q) → member_at s k i q (suc m) ≡ demand s k i q (member_at s k i q m)
  pub within : (m : ℕ) → suc m < length (tried s k i q) → member_at s k i q m ≤ horizon_tick
  -- the list rises strictly
  pub rises : (m : ℕ) → suc m < length (tried s k i q) → member_at s k i q m < member_at s k i q (suc m)
  -- its last member is W(q), whose demand equals it, or the first t over H where there is none up to H
  pub found : (w : ℕ) → window s k i q ≡ some w → (last_of s k i q ≡ w) × (demand s k i q w ≡ w)
  pub over : window s k i q ≡ none → horizon_tick < last_of s k i q
  -- the length: at most 1 + (sum over tasks above of σ_j at W(q)) − (number of tasks above); and at most H + 1 in any case
  pub short : (w : ℕ) → window s k i q ≡ some w → length (tried s k i q) + i ≤ 1 + arrivals_above s k i w
  pub few : length (tried s k i q) ≤ suc horizon_tick

-- so it is for every task of a sheet within its limits and without a frame, with any kept jitters, and every q
abbrev pub TriedLists : Type 0
TriedLists = (s : Tasks) → Valid s → s.frame ≡ none → (k : ℕ → ℕ) (i : ℕ) → i < s.count → (q : ℕ) → TriedList s k i q

-- and the number of evaluations of a verdict fits 64 bits: at most H + 1 lists of at most H + 1 members
abbrev pub EvaluationsFew : Type 0
EvaluationsFew = (s : Tasks) → Valid s → (k : ℕ → ℕ) (i : ℕ) → i < s.count → evaluations s k i ≤ 100000020000001
