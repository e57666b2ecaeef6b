-- "No smaller holds anywhere" (document 02, R-13): no set of kept jitters under which every task fits is smaller than the choice anywhere. With any charge, and with or
-- without a frame. proofs/NoneSmaller.antt proves the statements (`none_smaller`, `none_smaller_high`, `fifteen_is_final`, `theirs_not_below`), and proofs/LowAbove.antt the
-- one by a sum (`high_is_not_enough`).
use Rattle.std.specs.Prelude.{ℕ, ◌≤◌, ◌<◌, ◌≡◌, true, false, List, length, ℤ}
use Rattle.model.specs.Tasks.{Tasks, Valid}
use Rattle.model.specs.Verdict.{fits, verdict}
use Rattle.model.specs.Choice.{column, is_fits, chosen, ordinary, high_only, scope, choice}
use Rattle.model.specs.Refusal.{answered, refused}
use Rattle.model.specs.Checks.{refusal_of}
use Rattle.model.specs.Calls.{column_after, verdict_call, choice_inputs, choice_call, kept_column}

-- a set of kept jitters, each in 0..J, that "makes every task fit"
pub record AllFit (s : Tasks) (k : ℕ → ℕ) : Type 0 where
  pub kept : (i : ℕ) → i < s.count → k i ≤ s.jitter i
  pub fit : (i : ℕ) → i < s.count → is_fits (verdict s k i) ≡ true

-- "the choice succeeds", as an ordinary one, "and each of its K is at most that set's K for the same task"
pub record LeastEverywhere (s : Tasks) (k : ℕ → ℕ) : Type 0 where
  pub keeps : List ℕ
  pub worsts : List ℤ
  pub told : scope s ≡ ordinary
  pub is : choice s ≡ chosen keeps worsts
  pub least : (i : ℕ) → i < s.count → column keeps i ≤ k i
  -- and it is such a set itself
  pub itself : AllFit s (column keeps)

-- document 02 says it of sheets with all marks high. A set that makes every task fit makes the low ones fit too, and then the marks do not matter
abbrev pub NoneSmaller : Type 0
NoneSmaller = (s : Tasks) → Valid s → (k : ℕ → ℕ) → AllFit s k → LeastEverywhere s k

-- a set of kept jitters that makes every high task fit, whatever becomes of the low ones
pub record HighFit (s : Tasks) (k : ℕ → ℕ) : Type 0 where
  pub kept : (i : ℕ) → i < s.count → k i ≤ s.jitter i
  pub fit : (i : ℕ) → i < s.count → s.low i ≡ false → is_fits (verdict s k i) ≡ true

-- with it the choice succeeds, and where it is the one of the high tasks alone, none of its K is over that set's
pub record LeastOfHigh (s : Tasks) (k : ℕ → ℕ) : Type 0 where
  pub keeps : List ℕ
  pub worsts : List ℤ
  pub is : choice s ≡ chosen keeps worsts
  pub least : scope s ≡ high_only → (i : ℕ) → i < s.count → column keeps i ≤ k i

abbrev pub NoneSmallerHigh : Type 0
NoneSmallerHigh = (s : Tasks) → Valid s → (k : ℕ → ℕ) → HighFit s k → LeastOfHigh s k

-- of an ordinary choice that is not so: a sheet with a low task, whose choice is ordinary, and a set that makes every high task fit and is smaller at one of them.
-- So "all marks high" cannot be left out where only the high tasks are asked to fit
pub record SmallerThere (s : Tasks) : Type 0 where
  pub k : ℕ → ℕ
  pub high : HighFit s k
  pub keeps : List ℕ
  pub worsts : List ℤ
  pub told : scope s ≡ ordinary
  pub is : choice s ≡ chosen keeps worsts
  pub task : ℕ
  pub in_sheet : task < s.count
  pub is_high : s.low task ≡ false
  pub smaller : k task < column keeps task

abbrev pub HighIsNotEnough : Type 0
HighIsNotEnough = (s : Tasks) × Valid s × SmallerThere s

-- where the choice call answers 15 at task i, no kept jitters make every task up to i fit, not even every high one of them
abbrev pub FifteenIsFinal : Type 0
FifteenIsFinal =
    (s : Tasks) (kept worst : List ℕ) (i : ℕ) → choice_call s kept worst ≡ refused (record { number = 15; place = i })
    → (k : ℕ → ℕ) → ((j : ℕ) → j ≤ i → k j ≤ s.jitter j) → ((j : ℕ) → j ≤ i → s.low j ≡ false → is_fits (verdict s k j) ≡ true) → ⊥

-- the verdict call says that task i fits with a column of kept jitters
pub record SaysFits (s : Tasks) (i : ℕ) (kept : List ℕ) : Type 0 where
  pub worst : ℤ
  pub at : ℕ
  pub evaluations : ℕ
  pub answer : verdict_call s i kept ≡ answered (record { says = fits worst at; evaluations = evaluations })

-- what stands in the column lent for the kept jitters after the choice call (`choice::choose`)
abbrev pub kept_after : Tasks → List ℕ → List ℕ → List ℕ
kept_after s kept worst = column_after (refusal_of (choice_inputs s kept worst)) (kept_column (choice s)) kept

-- a customer's column with which the verdict call says of every task that it fits: the choice call, lent the slots that it needs, answers as an ordinary choice, and
-- the customer's column is, slot by slot, not below the one that it writes
abbrev pub TheirsIsNotBelow : Type 0
TheirsIsNotBelow =
    (s : Tasks) → 1 ≤ s.count → (theirs : List ℕ) → ((i : ℕ) → i < s.count → SaysFits s i theirs)
    → (kept worst : List ℕ) → s.count ≤ length kept → s.count ≤ length worst
    → (choice_call s kept worst ≡ answered ordinary) × ((i : ℕ) → i < s.count → column (kept_after s kept worst) i ≤ column theirs i)
