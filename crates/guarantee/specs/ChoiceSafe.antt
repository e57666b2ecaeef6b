-- What a choice is worth: with its kept jitters no job of a task that is judged and whose own releases are legal is late, and no smaller one would do. Which tasks are
-- judged is said by the choice: every one, or the high ones alone (document 02, R-9). proofs/ChoiceSafe.antt proves it (`choice_safe`, `ordinary_safe`, `high_only_safe`,
-- `unfit_high`).
use Rattle.std.specs.Prelude.{ℕ, ◌≤◌, ◌<◌, ◌≡◌, true, false, List, get_or, take, ℤ, pos}
use Rattle.model.specs.Tasks.{Tasks, Release, Valid}
use Rattle.model.specs.Gap.{Legal}
use Rattle.model.specs.Verdict.{verdict}
use Rattle.model.specs.Choice.{column, and_keep, is_fits, unfit, chosen, Scope, ordinary, high_only, judges, choice_of, scope, choice}
use Rattle.model.specs.Claims.{Trace, OnTime}

-- no job of a task whose own releases are legal is late, in any trace, whatever the others release
abbrev pub NeverLate : Tasks → List ℕ → ℕ → Type 0
NeverLate s ks i = (l : List Release) → Trace s l → Legal s l i → OnTime s (column ks) i l

-- kept jitters ks and worst values ws of all tasks of a set
pub record Safe (c : Scope) (s : Tasks) (ks : List ℕ) (ws : List ℤ) : Type 0 where
  -- no such job of a task that is judged is late
  pub on_time : (i : ℕ) → i < s.count → judges c s i ≡ true → NeverLate s ks i
  -- every K below such a task's, with those of the tasks above as they are, has a verdict that is not "fits"
  pub least : (i K : ℕ) → i < s.count → judges c s i ≡ true → K < column ks i → is_fits (verdict s (and_keep (take i ks) K) i) ≡ false
  -- a task that is not judged is kept at 0, and its worst value is 0; nothing is said about its lateness
  pub left_out : (i : ℕ) → i < s.count → judges c s i ≡ false → (column ks i ≡ 0) × (get_or ws i (pos 0) ≡ pos 0)

-- those of a choice are such
abbrev pub ChoiceIsSafe : Type 0
ChoiceIsSafe = (s : Tasks) → Valid s → (ks : List ℕ) (ws : List ℤ) → choice s ≡ chosen ks ws → Safe (scope s) s ks ws

-- in the user's terms: of an ordinary choice, no job of any task whose own releases are legal is late
abbrev pub OrdinaryIsSafe : Type 0
OrdinaryIsSafe =
    (s : Tasks) → Valid s → (ks : List ℕ) (ws : List ℤ) → scope s ≡ ordinary → choice s ≡ chosen ks ws → (i : ℕ) → i < s.count → NeverLate s ks i

-- of the other, no job of any high task whose own releases are legal, whatever all others release, the low ones too
abbrev pub HighOnlyIsSafe : Type 0
HighOnlyIsSafe =
    (s : Tasks) → Valid s → (ks : List ℕ) (ws : List ℤ) → scope s ≡ high_only → choice s ≡ chosen ks ws → (i : ℕ) → i < s.count → s.low i ≡ false → NeverLate s ks i

-- "15 then names the first high task that fits at no K": the tasks above it have a choice, and with it no K of the task fits
pub record HighUnfit (s : Tasks) (n : ℕ) : Type 0 where
  pub in_sheet : n < s.count
  pub high : s.low n ≡ false
  pub above : List ℕ
  pub worst : List ℤ
  pub chosen_above : choice_of high_only s n ≡ chosen above worst
  pub none_fits : (K : ℕ) → K ≤ s.jitter n → is_fits (verdict s (and_keep above K) n) ≡ false

abbrev pub UnfitIsHigh : Type 0
UnfitIsHigh = (s : Tasks) (n : ℕ) → choice s ≡ unfit n → HighUnfit s n
