-- The calls on values: what each answers, as one equation with the definitions.
use Rattle.std.specs.Prelude.{ℕ, List, [], ◌∷◌, ◌++◌, map, length, get_or, drop, nat_abs}
use Rattle.std.proofs.Math.Option.{Option, some, none}
use Rattle.model.specs.Series.{table}
use Rattle.model.specs.Tasks.{Tasks, Release}
use Rattle.model.specs.Arrival.{arrivals}
use Rattle.model.specs.Choice.{column, Choice, unfit, chosen, Scope, scope, choice}
use Rattle.model.specs.Evaluations.{Judged, judged}
use Rattle.model.specs.Legality.{first_close}
use Rattle.model.specs.Stops.{stop_count}
use Rattle.model.specs.Refusal.{Refusal, Answer}
use Rattle.model.specs.Checks.{Lent, Inputs, answer_of}

-- a lent slice that must have n slots
abbrev pub lends : ℕ → List ℕ → Lent
lends n l = record { needed = n; slots = length l }

-- the releases that three columns and a count give
unfoldable pub releases_of : ℕ → List ℕ → List ℕ → List ℕ → List Release
releases_of n task tick cost = table (λ p. record { task = get_or task p 0; tick = get_or tick p 0; cost = get_or cost p 0 }) n

-- what stands in a lent column afterwards: the answer and then what the slots past it held; after a refusal, what it held
unfoldable pub column_after : Option Refusal → List ℕ → List ℕ → List ℕ
column_after none answer held = answer ++ drop (length answer) held
column_after (some r) answer held = held

-- a call about one task, with kept jitters
abbrev pub task_inputs : Tasks → ℕ → List ℕ → Inputs
task_inputs s i kept = record {
  tasks = s;
  single = some i;
  count = none;
  lent = lends s.count kept ∷ [];
  kept = some (column kept);
  releases = [];
  unfit = none;
}

-- arrival count: σ of task i in t ticks
unfoldable pub arrival_call : Tasks → ℕ → List ℕ → ℕ → Answer ℕ
arrival_call s i kept t = answer_of (task_inputs s i kept) (arrivals (s.period i) (column kept i) t)

-- verdict of task i, with the number of its evaluations
unfoldable pub verdict_call : Tasks → ℕ → List ℕ → Answer Judged
verdict_call s i kept = answer_of (task_inputs s i kept) (judged s (column kept) i)

-- the first task that fits at no K, if any
unfoldable pub unfit_of : Choice → Option ℕ
unfit_of (unfit i) = some i
unfit_of (chosen ks ws) = none

-- choice: columns for kept jitters and worst values are lent
abbrev pub choice_inputs : Tasks → List ℕ → List ℕ → Inputs
choice_inputs s kept worst = record {
  tasks = s;
  single = none;
  count = none;
  lent = lends s.count kept ∷ lends s.count worst ∷ [];
  kept = none;
  releases = [];
  unfit = unfit_of (choice s);
}

-- choice: which of the two it is
unfoldable pub choice_call : Tasks → List ℕ → List ℕ → Answer Scope
choice_call s kept worst = answer_of (choice_inputs s kept worst) (scope s)

-- its two columns; the worst value of a task that is judged is at least 1, that of another is 0
unfoldable pub kept_column : Choice → List ℕ
kept_column (unfit i) = []
kept_column (chosen ks ws) = ks

unfoldable pub worst_column : Choice → List ℕ
worst_column (unfit i) = []
worst_column (chosen ks ws) = map nat_abs ws

-- a call with a list of n releases in three columns
abbrev pub list_inputs : Tasks → ℕ → List ℕ → List ℕ → List ℕ → Inputs
list_inputs s n task tick cost = record {
  tasks = s;
  single = none;
  count = some n;
  lent = lends n task ∷ lends n tick ∷ lends n cost ∷ [];
  kept = none;
  releases = releases_of n task tick cost;
  unfit = none;
}

-- trace check: legal, or the first release that is too close to an earlier one of its task
unfoldable pub trace_call : Tasks → ℕ → List ℕ → List ℕ → List ℕ → Answer (Option ℕ)
trace_call s n task tick cost = answer_of (list_inputs s n task tick cost) (first_close s (releases_of n task tick cost))

-- ready ticks of a list, with kept jitters; a column for the ready ticks is lent
abbrev pub ready_inputs : Tasks → List ℕ → ℕ → List ℕ → List ℕ → List ℕ → List ℕ → Inputs
ready_inputs s kept n task tick cost ready = record {
  tasks = s;
  single = none;
  count = some n;
  lent = lends s.count kept ∷ lends n task ∷ lends n tick ∷ lends n cost ∷ lends n ready ∷ [];
  kept = some (column kept);
  releases = releases_of n task tick cost;
  unfit = none;
}

-- the run of a list, with kept jitters; columns for ready and finish ticks are lent
abbrev pub run_inputs : Tasks → List ℕ → ℕ → List ℕ → List ℕ → List ℕ → List ℕ → List ℕ → Inputs
run_inputs s kept n task tick cost ready finish = record {
  tasks = s;
  single = none;
  count = some n;
  lent = lends s.count kept ∷ lends n task ∷ lends n tick ∷ lends n cost ∷ lends n ready ∷ lends n finish ∷ [];
  kept = some (column kept);
  releases = releases_of n task tick cost;
  unfit = none;
}

-- the run that jumps: the run's inputs, and the number of stops
unfoldable pub jump_call : Tasks → List ℕ → ℕ → List ℕ → List ℕ → List ℕ → List ℕ → List ℕ → Answer ℕ
jump_call s kept n task tick cost ready finish =
    answer_of (run_inputs s kept n task tick cost ready finish) (stop_count s (column kept) (releases_of n task tick cost))
