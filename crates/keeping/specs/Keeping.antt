-- The least kept jitter of one task: what the functions of this crate take and answer.
use Rattle.std.specs.Prelude as std
use Rattle.std.specs.Prelude.{ℕ, suc, ◌+◌, ◌-◌, ◌*◌, ◌≤◌, ◌<◌, max, min, ◌≡◌, true, false, List, leb, ltb, length, take, pos}
use Rattle.std.proofs.Math.Option.{Option, some, none}
use Rattle.model.specs.Limits.{max_time, horizon_tick}
use Rattle.model.specs.Processor.{pickup}
use Rattle.model.specs.Frame.{Frame}
use Rattle.model.specs.Tasks.{Tasks, load, InRange}
use Rattle.model.specs.SameTasks.{SameFrame}
use Rattle.model.specs.Gap.{gap}
use Rattle.model.specs.Demand.{window}
use Rattle.model.specs.Verdict.{verdict}
use Rattle.model.specs.Evaluations.{counted_at, taken, evaluations}
use Rattle.model.specs.Choice.{column, and_keep, least_keep, worst_of}
use Rattle.demand.specs.Columns.{flat_tasks, Searchable, IsOnce}
use Rattle.keeping.specs.declared.Window.{Window}
use Rattle.keeping.specs.declared.Least.{Least}
use Rattle.keeping.specs.declared.Step.{Step}
use Rattle.keeping.specs.declared.Step.TheVariants.{Stops, Fails, Next}

-- a frame, if any, loads and periods as a task set; the search for W(q) looks at nothing else
abbrev pub flat : Option Frame → List ℕ → List ℕ → Tasks
flat o loads periods = flat_tasks o loads periods 0 0

-- the search for W(q) of task n may start, one load of each task above being known
pub record Searched (loads periods keeps : List ℕ) (n once q : ℕ) : Type 0 where
  pub columns : Searchable loads periods keeps n
  pub once_is : IsOnce loads n once
  pub q_high : q ≤ horizon_tick

-- w is W(q) of task n, and m is how many t count for it
pub record WithinIs (o : Option Frame) (loads periods keeps : List ℕ) (n q w m : ℕ) : Type 0 where
  pub is : window (flat o loads periods) (column keeps) n q ≡ some w
  pub counted : counted_at (flat o loads periods) (column keeps) n q ≡ m
  pub small : m ≤ 10000001

abbrev pub WindowOf : Option Frame → List ℕ → List ℕ → List ℕ → ℕ → ℕ → std.Option Window → Type 0
WindowOf o loads periods keeps n q (std.Some w) = WithinIs o loads periods keeps n q w.ticks w.tries
WindowOf o loads periods keeps n q std.None = window (flat o loads periods) (column keeps) n q ≡ none

-- K is the least kept jitter of task i, given the choices above; w, q and n are the largest R, the last q and the evaluations of the verdict at K
pub record KeepIs (s : Tasks) (above : List ℕ) (i K w q n : ℕ) : Type 0 where
  pub least : least_keep s above i ≡ some K
  pub worst : worst_of (verdict s (and_keep above K) i) ≡ pos w
  pub last : taken s (and_keep above K) i ≡ suc q
  pub counted : evaluations s (and_keep above K) i ≡ n
  pub small : n ≤ 100000020000001

-- such an answer
abbrev pub kept_at : ℕ → ℕ → ℕ → ℕ → std.Option Least
kept_at K w q n = std.Some (record { keep = K; worst = w; last = q; evaluations = n })

abbrev pub LeastIs : Tasks → List ℕ → ℕ → std.Option Least → Type 0
LeastIs s above i (std.Some k) = KeepIs s above i k.keep k.worst k.last k.evaluations
LeastIs s above i std.None = least_keep s above i ≡ none

-- the largest W(q') + pickup + J − q'P up to q, high being that of the q' before and w being W(q)
abbrev pub next_high : ℕ → ℕ → ℕ → ℕ → ℕ → ℕ
next_high P J high q w = max high (w + pickup + J - q * P)

-- one q of the walk: no K fits where W(q) + pickup + min(0, x) is over D; every K below high − D is late; that K itself stops here where its W(q) ≤ d_K(q + 1)
unfoldable pub step_of : ℕ → ℕ → ℕ → ℕ → ℕ → ℕ → Step
step_of P J D high q w =
    elim (ltb (D + (q * P - J)) (w + pickup)) [
      | true ↦ Fails
      | false ↦
          elim (leb w (gap P (next_high P J high q w - D) (q + 1))) [
            | true ↦ Stops (next_high P J high q w - D) (min (next_high P J high q w) D)
            | false ↦ Next (next_high P J high q w)
          ]
    ]

-- r is a product of a number of jobs, and small
pub record Product (n x r : ℕ) : Type 0 where
  pub is : r ≡ n * x
  pub small : r ≤ 10000001000000

-- the numbers of a step are small
pub record Stepped (P J D high q w : ℕ) : Type 0 where
  pub period_high : P ≤ max_time
  pub jitter_high : J ≤ max_time
  pub deadline_high : D ≤ max_time
  pub reach : high ≤ D + J
  pub q_high : q ≤ horizon_tick
  pub w_high : w ≤ horizon_tick

-- a task set with this frame, if any, whose tasks up to i have these loads and periods, and whose task i has J and D
pub record Flat (s : Tasks) (o : Option Frame) (loads periods : List ℕ) (i J D : ℕ) : Type 0 where
  pub frame_is : SameFrame o s.frame
  pub load_is : (m : ℕ) → m ≤ i → load s m ≡ column loads m
  pub period_is : (m : ℕ) → m ≤ i → s.period m ≡ column periods m
  pub jitter_is : s.jitter i ≡ J
  pub deadline_is : s.deadline i ≡ D

-- the walk of task i may start
pub record Walkable (loads periods keeps : List ℕ) (i J D : ℕ) : Type 0 where
  pub columns : Searchable loads periods keeps i
  pub periods_long : i < length periods
  pub own : InRange (column periods i) J (column loads i) D

-- the least kept jitter of task i, for every task set with these columns and this frame
abbrev pub LeastOf : Option Frame → List ℕ → List ℕ → List ℕ → ℕ → ℕ → ℕ → std.Option Least → Type 0
LeastOf o loads periods keeps i J D r = (s : Tasks) → Flat s o loads periods i J D → LeastIs s (take i keeps) i r
