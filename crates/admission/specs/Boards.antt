-- Board and commit (document 02, R-11): the record in force, what opens it, and what changes it.
use Rattle.std.specs.Prelude.{ℕ, ◌≡◌, Bool, true, false, not, ◌&&◌, ◌||◌, List, [], ◌∷◌, ltb, eqb, length}
use Rattle.std.proofs.Math.Option.{Option, some, none}
use Rattle.model.specs.Search.{first}
use Rattle.model.specs.Frame.{Frame}
use Rattle.model.specs.Tasks.{Tasks, Release}
use Rattle.model.specs.Run.{finish_list}
use Rattle.model.specs.Choice.{Scope, ordinary, high_only, column}
use Rattle.model.specs.Refusal.{Refusal, Answer, refused, answered, first_refusal}
use Rattle.model.specs.Checks.{refuse_if, check_tasks, check_count, check_slots, check_kept, check_releases, refusal_of}
use Rattle.model.specs.Calls.{lends, releases_of}
use Rattle.admission.specs.Offers.{Entry, entry_at, Plan, plan_of, plan_inputs, answer_by, plan_call, ask_call}

-- "board": the sheet in force with its frame and its choice, and the tick of the last commit, 0 where there is none yet
pub record Board : Type 0 where
  pub plan : Plan
  pub last : ℕ

-- "a board opens with a sheet, its frame and its choice", or the choice's refusal
unfoldable pub open_call : Tasks → Answer Board
open_call s = answer_by (refusal_of (plan_inputs s)) (record { plan = plan_of s; last = 0 })

-- what a board holds is what an opening or a commit put there: a sheet that the choice accepts, with its frame, and the choice made of them
abbrev pub WellFormed : Board → Type 0
WellFormed b = plan_call b.plan.tasks ≡ answered b.plan

-- the test holds at none of the numbers below n
unfoldable pub nowhere : (ℕ → Bool) → ℕ → Bool
nowhere test n = elim (first test n 0) [ none ↦ true | some i ↦ false ]

-- a place that a search found, and n where it found none
unfoldable pub or_end : ℕ → Option ℕ → ℕ
or_end n none = n
or_end n (some p) = p

-- tasks with the same P, J, E, D and mark
unfoldable pub same_mark : Bool → Bool → Bool
same_mark true b = b
same_mark false b = not b

unfoldable pub same_entry : Entry → Entry → Bool
same_entry a b =
    eqb a.period b.period && eqb a.jitter b.jitter && eqb a.cost b.cost && eqb a.deadline b.deadline && same_mark a.low b.low

-- the sheets differ in task i
abbrev pub differs : Tasks → Tasks → ℕ → Bool
differs s s' i = not (same_entry (entry_at s i) (entry_at s' i))

-- the frames differ in window k
unfoldable pub window_differs : Frame → Frame → ℕ → Bool
window_differs f g k = not (eqb (f.first k) (g.first k) && eqb (f.size k) (g.size k))

-- no frame, or frames that agree on their ticks, their count and the windows below it
unfoldable pub same_frame : Option Frame → Option Frame → Bool
same_frame none none = true
same_frame none (some g) = false
same_frame (some f) none = false
same_frame (some f) (some g) = eqb f.ticks g.ticks && eqb f.count g.count && nowhere (window_differs f g) f.count

-- sheets that agree on the count, the charge, the tasks below the count, and the frame (`SameTasks`, crate `model`; proofs/SameLaws.antt proves that this test decides it)
unfoldable pub same_tasks : Tasks → Tasks → Bool
same_tasks s s' = eqb s.count s'.count && eqb s.charge s'.charge && nowhere (differs s s') s.count && same_frame s.frame s'.frame

-- columns of the same numbers
unfoldable pub same_column : List ℕ → List ℕ → Bool
same_column a b = eqb (length a) (length b) && nowhere (λ i. not (eqb (column a i) (column b i))) (length a)

-- the same of the two choices
unfoldable pub same_scope : Scope → Scope → Bool
same_scope ordinary ordinary = true
same_scope ordinary high_only = false
same_scope high_only ordinary = false
same_scope high_only high_only = true

-- records that say the same
unfoldable pub same_plan : Plan → Plan → Bool
same_plan a b = same_tasks a.tasks b.tasks && same_column a.kept b.kept && same_column a.worst b.worst && same_scope a.scope b.scope

-- the place of the new task in an offer: the first at which its sheet differs from the one asked of, and else the foot of that one
unfoldable pub place_in : Tasks → Tasks → ℕ
place_in s new = or_end s.count (first (differs s new) s.count 0)

-- an answer of an ask that gives the offer
unfoldable pub gives : Answer Plan → Plan → Bool
gives (refused r) o = false
gives (answered p) o = same_plan p o

-- the offer is "what an ask gives on" the sheet: the ask for the task that stands at that place gives it. `Asked` says that this is so exactly where some ask, for
-- any task at any place, gives it
unfoldable pub is_offer : Tasks → Plan → Bool
is_offer s o = gives (ask_call s (entry_at o.tasks (place_in s o.tasks)) (place_in s o.tasks)) o

-- what goes into a commit: the offer, the sheet and frame that it was asked of, the releases since the last commit in columns, and a tick
pub record Commit : Type 0 where
  pub asked : Tasks
  pub offer : Plan
  pub count : ℕ
  pub task : List ℕ
  pub tick : List ℕ
  pub cost : List ℕ
  pub at : ℕ

-- the releases since the last commit
abbrev pub releases_in : Commit → List Release
releases_in c = releases_of c.count c.task c.tick c.cost

-- 19: "the sheet held or its frame differs from the one asked of, or the offer is not what an ask gives on it"
unfoldable pub stale : Board → Commit → Bool
stale b c = not (same_tasks b.plan.tasks c.asked && is_offer c.asked c.offer)

-- some number of the list is over t
unfoldable pub any_over : ℕ → List ℕ → Bool
any_over t [] = false
any_over t (x ∷ l) = ltb t x || any_over t l

-- 20: "that tick is before the last commit's .. or the run of those releases has a finish over it". The run is that of the sheet, frame and kept jitters in force, of
-- these releases alone, their ticks as they are given
unfoldable pub too_soon : Board → Commit → Bool
too_soon b c = ltb c.at b.last || any_over c.at (finish_list b.plan.tasks (column b.plan.kept) (releases_in c))

-- the order of checks: 10, 13, the releases in order (7, 8, 9; "a release before the last commit's tick is refused with 8"), 19, 20. Before them the sheet in force and
-- its frame, and before the releases its kept jitters (12), as a run checks them: a well-formed board passes these
unfoldable pub commit_refusal : Board → Commit → Option Refusal
commit_refusal b c =
    first_refusal
    (check_tasks b.plan.tasks
    ∷ check_count (some c.count)
    ∷ check_slots (lends c.count c.task ∷ lends c.count c.tick ∷ lends c.count c.cost ∷ [])
    ∷ check_kept b.plan.tasks (some (column b.plan.kept))
    ∷ check_releases b.plan.tasks b.last 0 (releases_in c)
    ∷ refuse_if (stale b c) 19 0
    ∷ refuse_if (too_soon b c) 20 0
    ∷ [])

-- "commit": the new sheet and choice in force, from that tick on; or the refusal
unfoldable pub commit_call : Board → Commit → Answer Board
commit_call b c = answer_by (commit_refusal b c) (record { plan = c.offer; last = c.at })

-- the board after a commit: "only commits change it", and a refused one leaves it
unfoldable pub board_after : Board → Commit → Board
board_after b c = elim (commit_call b c) [ refused r ↦ b | answered b' ↦ b' ]

-- after some commits in turn, accepted or refused
unfoldable pub boards_after : Board → List Commit → Board
boards_after b [] = b
boards_after b (c ∷ l) = boards_after (board_after b c) l
