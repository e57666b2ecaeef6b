-- Ask (document 02, R-11): a new task at a priority place of the sheet held, and the new sheet with its choice as one record, or a refusal.
use Rattle.std.specs.Prelude.{ℕ, suc, pred, ◌≡◌, Bool, cond, List, [], ◌∷◌, ltb, eqb}
use Rattle.std.proofs.Math.Option.{Option, some, none}
use Rattle.model.specs.Tasks.{Tasks}
use Rattle.model.specs.Choice.{Scope, scope, choice}
use Rattle.model.specs.Refusal.{Refusal, Answer, refused, answered, first_refusal}
use Rattle.model.specs.Checks.{Inputs, refuse_if, check_tasks, refusal_of}
use Rattle.model.specs.Calls.{unfit_of, kept_column, worst_column}
use Rattle.model.specs.SameTasks.{SameTasks}

-- a task by itself: P, J, E, D, and whether it is low
pub record Entry : Type 0 where
  pub period : ℕ
  pub jitter : ℕ
  pub cost : ℕ
  pub deadline : ℕ
  pub low : Bool

-- task i of a sheet
abbrev pub entry_at : Tasks → ℕ → Entry
entry_at s i = record { period = s.period i; jitter = s.jitter i; cost = s.cost i; deadline = s.deadline i; low = s.low i }

-- a column with one more value at place p: those above it stay, those from p on stand one place lower
unfoldable pub inserted : {A : Type 0} → ℕ → A → (ℕ → A) → ℕ → A
inserted p a f i = cond (ltb i p) (f i) (cond (eqb i p) a (f (pred i)))

-- "the new sheet": the new task at its priority place; the charge and the frame are those of the sheet held
abbrev pub with_task : ℕ → Entry → Tasks → Tasks
with_task p t s = record {
  count = suc s.count;
  period = inserted p t.period s.period;
  jitter = inserted p t.jitter s.jitter;
  cost = inserted p t.cost s.cost;
  deadline = inserted p t.deadline s.deadline;
  low = inserted p t.low s.low;
  charge = s.charge;
  frame = s.frame;
}

-- a sheet with its choice, "as one record": kept jitters and worst values, one for each task, and which of the two choices it is. An offer is such a record
pub record Plan : Type 0 where
  pub tasks : Tasks
  pub kept : List ℕ
  pub worst : List ℕ
  pub scope : Scope

-- the sheet with the choice made of it
abbrev pub plan_of : Tasks → Plan
plan_of s = record { tasks = s; kept = kept_column (choice s); worst = worst_column (choice s); scope = scope s }

-- what the choice checks, no column being lent: the sheet (5, 4, then 6 and 17 by task, then 18), then 15
abbrev pub plan_inputs : Tasks → Inputs
plan_inputs s = record { tasks = s; single = none; count = none; lent = []; kept = none; releases = []; unfit = unfit_of (choice s) }

-- the first refusal, else the value
unfoldable pub answer_by : {A : Type 0} → Option Refusal → A → Answer A
answer_by none a = answered a
answer_by (some r) a = refused r

-- the choice of a sheet as a record, or the choice's refusal
unfoldable pub plan_call : Tasks → Answer Plan
plan_call s = answer_by (refusal_of (plan_inputs s)) (plan_of s)

-- "14 for a place over the old count": the place after the last task is the foot of the sheet
unfoldable pub check_place : Tasks → ℕ → Option Refusal
check_place s p = refuse_if (ltb s.count p) 14 p

-- an ask "checks the sheet held and its frame, then 14 .., then the new sheet as the choice does"
unfoldable pub ask_refusal : Tasks → Entry → ℕ → Option Refusal
ask_refusal s t p = first_refusal (check_tasks s ∷ check_place s p ∷ refusal_of (plan_inputs (with_task p t s)) ∷ [])

-- "ask": the offer, or the refusal
unfoldable pub ask_call : Tasks → Entry → ℕ → Answer Plan
ask_call s t p = answer_by (ask_refusal s t p) (plan_of (with_task p t s))

-- records that say the same: sheets that agree on their tasks and frames, entries past the counts left out, and the same choice
pub record SamePlan (a b : Plan) : Type 0 where
  pub tasks : SameTasks a.tasks b.tasks
  pub kept : a.kept ≡ b.kept
  pub worst : a.worst ≡ b.worst
  pub scope : a.scope ≡ b.scope

-- answers that say the same: equal refusals, or such records
abbrev pub SameAnswer : Answer Plan → Answer Plan → Type 0
SameAnswer (refused r) (refused q) = r ≡ q
SameAnswer (refused r) (answered b) = ⊥
SameAnswer (answered a) (refused q) = ⊥
SameAnswer (answered a) (answered b) = SamePlan a b
