-- What the functions of this crate take and answer.
use Rattle.std.specs.Prelude as std
use Rattle.std.specs.Prelude.{ℕ, zero, suc, ◌≤◌, ◌<◌, ◌≡◌, Bool, true, false, ◌||◌, List, [], ◌∷◌, map, leb, length, take, pos, Result}
use Rattle.std.proofs.Math.Option.{Option, none}
use Rattle.model.specs.Series.{sum}
use Rattle.model.specs.Limits.{max_tasks}
use Rattle.model.specs.Frame.{Frame}
use Rattle.model.specs.Tasks.{Tasks}
use Rattle.model.specs.Evaluations.{evaluations}
use Rattle.model.specs.Choice.{column, Choice, unfit, chosen, Scope, ordinary, high_only, judges, choice_of, scope}
use Rattle.model.specs.Refusal.{Answer}
use Rattle.model.specs.Checks.{Inputs}
use Rattle.refusal.specs.declared.Refusal.{Refusal}
use Rattle.refusal.specs.Refusal.{answer_in}
use Rattle.keeping.specs.declared.Least.{Least}
use Rattle.keeping.specs.Keeping.{kept_at, LeastOf}
use Rattle.choice.specs.declared.Choices.{Choices}
use Rattle.choice.specs.declared.Decision.{Decision}
use Rattle.choice.specs.declared.Extent.{Extent}
use Rattle.choice.specs.declared.Extent.TheVariants.{All, HighOnly}

-- which tasks a choice judges, as the definitions have it
abbrev pub extent_in : Extent → Scope
extent_in All = ordinary
extent_in HighOnly = high_only

-- a task is spared, that is, not judged: a low one, where the high ones alone are judged
abbrev pub spares : Extent → Bool → Bool
spares All low = false
spares HighOnly low = low

-- the least kept jitter of a task that may be spared, that is, not judged: then 0, with the worst value 0 and no evaluation
abbrev pub KeepOf : Bool → Option Frame → List ℕ → List ℕ → List ℕ → ℕ → ℕ → ℕ → std.Option Least → Type 0
KeepOf true o loads periods keeps i J D r = r ≡ kept_at 0 0 0 0
KeepOf false o loads periods keeps i J D r = LeastOf o loads periods keeps i J D r

-- the evaluations of a task in a choice: those of its verdict, and none where it is not judged
unfoldable pub evaluations_for : Scope → Tasks → (ℕ → ℕ) → ℕ → ℕ
evaluations_for c s k i = elim (judges c s i) [ true ↦ evaluations s k i | false ↦ 0 ]

-- the choice that the columns of n tasks hold
abbrev pub choice_in : ℕ → Choices → Choice
choice_in n r = elim (leb n r.fitted) [ true ↦ chosen (take n r.keep) (map pos (take n r.worst)) | false ↦ unfit r.fitted ]

-- a choice of a task set: the columns hold that of the tasks that have a kept jitter, down to the first that has none, and 0 past them
pub record ChoicesAre (c : Scope) (s : Tasks) (r : Choices) : Type 0 where
  pub is : choice_in s.count r ≡ choice_of c s s.count
  pub within : r.fitted ≤ s.count
  pub so_far : choice_of c s r.fitted ≡ chosen (take r.fitted r.keep) (map pos (take r.fitted r.worst))
  pub keep_past : (m : ℕ) → r.fitted ≤ m → m < max_tasks → column r.keep m ≡ 0
  pub worst_past : (m : ℕ) → r.fitted ≤ m → m < max_tasks → column r.worst m ≡ 0
  pub keep_long : length r.keep ≡ max_tasks
  pub worst_long : length r.worst ≡ max_tasks
  -- the evaluations are those of the verdicts at the chosen kept jitters, added up over the tasks that are judged
  pub counted : r.evaluations ≡ sum (λ j. evaluations_for c s (column r.keep) j) r.fitted

-- one of the first n tasks is low, given which ones are
unfoldable pub any_low : (ℕ → Bool) → ℕ → Bool
any_low low zero = false
any_low low (suc n) = any_low low n || low n

-- the choice that is the answer, and which of the two it is
pub record DecisionIs (s : Tasks) (r : Decision) : Type 0 where
  pub told : extent_in r.extent ≡ scope s
  pub choices : ChoicesAre (extent_in r.extent) s r.choices

-- what is checked before a choice is made, given the slots of its columns
abbrev pub room_inputs : Tasks → ℕ → ℕ → Inputs
room_inputs s kept worst = record {
  tasks = s;
  single = none;
  count = none;
  lent = record { needed = s.count; slots = kept } ∷ record { needed = s.count; slots = worst } ∷ [];
  kept = none;
  releases = [];
  unfit = none;
}

-- an answer as the definitions have it
unfoldable pub scope_told : Result Extent Refusal → Answer Scope
scope_told = answer_in extent_in
