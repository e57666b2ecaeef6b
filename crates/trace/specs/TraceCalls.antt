-- What the calls of this crate look at and answer.
use Rattle.std.specs.Prelude.{ℕ, ◌≤◌, ◌<◌, List, [], ◌∷◌, Result, length, get_or}
use Rattle.std.specs.Prelude as std
use Rattle.std.proofs.Math.Option.{Option, some, none}
use Rattle.model.specs.Limits.{max_tasks, max_time, max_releases, max_tick}
use Rattle.model.specs.Tasks.{Tasks}
use Rattle.model.specs.Choice.{column}
use Rattle.model.specs.Refusal.{Answer}
use Rattle.model.specs.Checks.{Lent, Inputs}
use Rattle.model.specs.Calls.{lends, releases_of}
use Rattle.refusal.specs.declared.Refusal.{Refusal}
use Rattle.refusal.specs.Refusal.{answer_in, option_in}

-- document 01's answer of a trace check: no release, or the first that is too close, or the number and the place
abbrev pub trace_in : Result (std.Option ℕ) Refusal → Answer (Option ℕ)
trace_in = answer_in option_in

-- the slices of a call with kept jitters and a list, the columns that it writes being m slots long
abbrev pub slots_lent : ℕ → List ℕ → ℕ → List ℕ → List ℕ → List ℕ → ℕ → List Lent
slots_lent c kept n task tick cost m = lends c kept ∷ lends n task ∷ lends n tick ∷ lends n cost ∷ record { needed = n; slots = m } ∷ []

-- what such a call looks at
abbrev pub call_inputs : Tasks → List ℕ → ℕ → List ℕ → List ℕ → List ℕ → ℕ → Inputs
call_inputs s kept n task tick cost m = record {
  tasks = s;
  single = none;
  count = some n;
  lent = slots_lent s.count kept n task tick cost m;
  kept = some (column kept);
  releases = releases_of n task tick cost;
  unfit = none;
}

-- what a list that passed its check gives the shapers
pub record Shapable (s : Tasks) (n : ℕ) (task tick : List ℕ) : Type 0 where
  pub few_tasks : s.count ≤ max_tasks
  pub period_high : (i : ℕ) → i < s.count → s.period i ≤ max_time
  pub few : n ≤ max_releases
  pub task_long : n ≤ length task
  pub tick_long : n ≤ length tick
  pub known : (p : ℕ) → p < n → get_or task p 0 < s.count
  pub tick_high : (p : ℕ) → p < n → get_or tick p 0 ≤ max_tick
