-- What the generator's functions answer.
use Rattle.std.specs.Prelude.{⊤, ℕ, ◌+◌, ◌-◌, ◌≤◌, ◌<◌, max, ◌≡◌, Bool, true, false, List, [], ◌∷◌, ◌++◌, ltb, length, get_or}
use Rattle.std.proofs.Math.Option.{Option, some, none}
use Rattle.model.specs.Tasks.{Tasks, Release}
use Rattle.model.specs.Gap.{gap}
use Rattle.model.specs.Calls.{releases_of}
use Rattle.enumeration.specs.SmallTraces.{pair_release, may_follow, extended}
use Rattle.generator.specs.declared.Timing.{Timing}
use Rattle.generator.specs.declared.Grid.{Grid}
use Rattle.generator.specs.declared.Floor.{Floor}
use Rattle.std.specs.declared.ops.ControlFlow.{ControlFlow}
use Rattle.std.specs.declared.ops.ControlFlow.TheVariants.{Continue, Break}

abbrev pub no_timing : Timing
no_timing = record { period = 0; jitter = 0; cost = 0 }

-- the sheet of a grid: its count, P, J and E; the rest does not matter to the traces
abbrev pub grid_tasks : Grid → Tasks
grid_tasks g = record {
  count = g.tasks;
  period = λ i. (get_or g.timings i no_timing).period;
  jitter = λ i. (get_or g.timings i no_timing).jitter;
  cost = λ i. (get_or g.timings i no_timing).cost;
  deadline = λ i. 0;
  low = λ i. false;
  charge = 0;
  frame = none;
}

-- so few places and so early a tick that no sum wraps
pub record Near (places tick : ℕ) : Type 0 where
  pub few : places ≤ 6
  pub early : tick ≤ 36

-- the floor after one more release before those looked at
unfoldable pub raised : Floor → ℕ → ℕ → Bool → ℕ → Floor
raised f P J true tick = record { tick = max f.tick (tick + gap P J f.places); places = f.places + 1 }
raised f P J false tick = f

-- rows whose first `at` releases, 6 at most, have early ticks
pub record Looked (at : ℕ) (task tick : List ℕ) : Type 0 where
  pub few : at ≤ 6
  pub task_long : at ≤ length task
  pub tick_long : at ≤ length tick
  pub near : (p : ℕ) → p < at → get_or tick p 0 ≤ 36

-- a grid of at most 3 tasks and 36 pairs, and rows for n releases, 6 at most, whose first `at` have early ticks
pub record Seekable (g : Grid) (n at : ℕ) (task tick cost : List ℕ) : Type 0 where
  pub some_task : 1 ≤ g.tasks
  pub few_tasks : g.tasks ≤ 3
  pub few_pairs : g.pairs ≤ 36
  pub room : n ≤ 6
  pub task_long : n ≤ length task
  pub tick_long : n ≤ length tick
  pub cost_long : n ≤ length cost
  pub near : (p : ℕ) → p < at → get_or tick p 0 ≤ 36

-- the traces that extend the releases l by pair x, where that may follow, and then by n more
unfoldable pub branch : Tasks → ℕ → ℕ → List Release → ℕ → List (List Release)
branch s b n l x = elim (may_follow s l (pair_release s x)) [ true ↦ extended s b n x (l ++ (pair_release s x ∷ [])) | false ↦ [] ]

-- what is left of a position after so many traces; none where it is the position of one of them
unfoldable pub left_after : ℕ → ℕ → Option ℕ
left_after n p = elim (ltb p n) [ true ↦ none | false ↦ some (p - n) ]

abbrev pub left_in : ControlFlow ⊤ ℕ → Option ℕ
left_in (Break u) = none
left_in (Continue n) = some n

-- how a search for position p among some traces of n releases ends: what is left of the position; where it is the position of one of them, the rows hold that
-- trace; and the first `at` releases of the rows are as they were
pub record Seeks (all : List (List Release)) (n p at : ℕ) (task tick cost task' tick' cost' : List ℕ) (r : ControlFlow ⊤ ℕ) : Type 0 where
  pub left : left_in r ≡ left_after (length all) p
  pub found : p < length all → releases_of n task' tick' cost' ≡ get_or all p []
  pub kept : releases_of at task' tick' cost' ≡ releases_of at task tick cost

abbrev pub past_in : ControlFlow ℕ ℕ → Option ℕ
past_in (Break n) = none
past_in (Continue left) = some left

-- how a search for position p among all small traces of up to m releases ends: what is left of the position; where it is the position of one of them, the number
-- of its releases, and the rows hold it
pub record Reaches (all : List (List Release)) (m p : ℕ) (task' tick' cost' : List ℕ) (r : ControlFlow ℕ ℕ) : Type 0 where
  pub left : past_in r ≡ left_after (length all) p
  pub found : (n : ℕ) → r ≡ Break n → releases_of n task' tick' cost' ≡ get_or all p []
  pub few : (n : ℕ) → r ≡ Break n → n ≤ m
