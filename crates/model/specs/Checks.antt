-- The checks of a call on values, and their order.
use Rattle.std.specs.Prelude.{ℕ, zero, suc, ◌+◌, Bool, true, false, ◌&&◌, ◌||◌, not, List, [], ◌∷◌, leb, ltb, eqb}
use Rattle.std.proofs.Math.Option.{Option, some, none}
use Rattle.model.specs.Search.{first}
use Rattle.model.specs.Limits.{max_tasks, max_time, max_releases, max_tick, max_frame, max_windows}
use Rattle.model.specs.Frame.{Frame}
use Rattle.model.specs.Processor.{plain}
use Rattle.model.specs.Tasks.{Tasks, Release}
use Rattle.model.specs.Refusal.{Refusal, refuse, Answer, refused, answered, first_refusal}

-- P, J, E and D are within their ranges
unfoldable pub in_range : ℕ → ℕ → ℕ → ℕ → Bool
in_range P J E D = leb 1 P && leb P max_time && leb J max_time && leb 1 E && leb E P && leb E D && leb D max_time

-- E + S is within P and D
unfoldable pub carries : ℕ → ℕ → ℕ → ℕ → Bool
carries S P E D = leb ((plain S).work E) P && leb ((plain S).work E) D

-- what is wrong with a task, given the charge, the lower number first: 6, P, J, E or D outside its range; 17, E + S over P or D
unfoldable pub entry_fault : ℕ → ℕ → ℕ → ℕ → ℕ → Option ℕ
entry_fault S P J E D = elim (in_range P J E D) [ false ↦ some 6 | true ↦ elim (carries S P E D) [ false ↦ some 17 | true ↦ none ] ]

-- with task i of a sheet
abbrev pub fault_of : Tasks → ℕ → Option ℕ
fault_of s i = entry_fault s.charge (s.period i) (s.jitter i) (s.cost i) (s.deadline i)

-- a number, if any, as a refusal at a place
unfoldable pub fault_at : ℕ → Option ℕ → Option Refusal
fault_at p none = none
fault_at p (some n) = refuse n p

-- some number
unfoldable pub is_fault : Option ℕ → Bool
is_fault none = false
is_fault (some n) = true

-- a place that a search found, as a refusal
unfoldable pub refuse_at : ℕ → Option ℕ → Option Refusal
refuse_at n none = none
refuse_at n (some p) = refuse n p

-- a refusal where a test holds
unfoldable pub refuse_if : Bool → ℕ → ℕ → Option Refusal
refuse_if true n p = refuse n p
refuse_if false n p = none

-- a refusal at the place that a search found, with the number of that place
unfoldable pub refuse_by : (ℕ → Option ℕ) → Option ℕ → Option Refusal
refuse_by f none = none
refuse_by f (some p) = fault_at p (f p)

-- 6 and 17 by task: the first task with which something is wrong
unfoldable pub check_entries : Tasks → Option Refusal
check_entries s = refuse_by (fault_of s) (first (λ i. is_fault (fault_of s i)) s.count 0)

-- the least first tick of window k: "over the first + length before it"
unfoldable pub floor_of : Frame → ℕ → ℕ
floor_of f zero = 0
floor_of f (suc k) = f.first k + f.size k + 1

-- a window with this first tick and length is within the rules, given the least first tick and the frame's ticks
unfoldable pub allowed : ℕ → ℕ → ℕ → ℕ → Bool
allowed low first size ticks = leb low first && leb 1 size && leb (first + size) ticks

-- window k is outside them
unfoldable pub is_outside : Frame → ℕ → Bool
is_outside f k = not (allowed (floor_of f k) (f.first k) (f.size k) f.ticks)

-- 18 (document 02, R-10): "the frame (place 17), the count (place 16), then the windows in order (the window's place)"; windows past the count are not looked at
unfoldable pub check_windows : Frame → Option Refusal
check_windows f =
    first_refusal
    (refuse_if (not (leb 1 f.ticks && leb f.ticks max_frame)) 18 17
    ∷ refuse_if (not (leb 1 f.count && leb f.count max_windows)) 18 16
    ∷ refuse_at 18 (first (is_outside f) f.count 0)
    ∷ [])

-- no frame is never refused
unfoldable pub check_frame : Option Frame → Option Refusal
check_frame none = none
check_frame (some f) = check_windows f

-- the sheet: 5, 4, then 6 and 17 by task, then 18
unfoldable pub check_tasks : Tasks → Option Refusal
check_tasks s =
    first_refusal (refuse_if (eqb s.count 0) 5 0 ∷ refuse_if (ltb max_tasks s.count) 4 max_tasks ∷ check_entries s ∷ check_frame s.frame ∷ [])

-- 14: no such task
unfoldable pub check_task : Tasks → Option ℕ → Option Refusal
check_task s none = none
check_task s (some i) = refuse_if (leb s.count i) 14 i

-- 10: over 1,024 releases
unfoldable pub check_count : Option ℕ → Option Refusal
check_count none = none
check_count (some n) = refuse_if (ltb max_releases n) 10 max_releases

-- a lent slice: the slots needed and its length
pub record Lent : Type 0 where
  pub needed : ℕ
  pub slots : ℕ

-- 13: the first lent slice that is too short. Columns by task stand first, then columns by release, then the writer's bytes
unfoldable pub check_slots : List Lent → Option Refusal
check_slots [] = none
check_slots (c ∷ l) = elim (ltb c.slots c.needed) [ true ↦ refuse 13 c.needed | false ↦ check_slots l ]

-- 12: the first task with K > J
unfoldable pub check_kept : Tasks → Option (ℕ → ℕ) → Option Refusal
check_kept s none = none
check_kept s (some k) = refuse_at 12 (first (λ i. ltb (s.jitter i) (k i)) s.count 0)

-- what is wrong with a release whose tick may be low to high, the lower number first: 7, a task not in the sheet; 8, a tick below low or over high; 9, cost 0
-- or over E
unfoldable pub release_fault : Tasks → ℕ → ℕ → Release → Option ℕ
release_fault s low high r =
    elim (leb s.count r.task) [
      | true ↦ some 7
      | false ↦
          elim (ltb r.tick low || ltb high r.tick) [
            | true ↦ some 8
            | false ↦ elim (eqb r.cost 0 || ltb (s.cost r.task) r.cost) [ true ↦ some 9 | false ↦ none ]
          ]
    ]

-- the releases in order, from the place p on, the tick before being given: no tick is below the one before or over the limit
unfoldable pub check_releases : Tasks → ℕ → ℕ → List Release → Option Refusal
check_releases s before p [] = none
check_releases s before p (r ∷ l) = elim (release_fault s before max_tick r) [ none ↦ check_releases s r.tick (suc p) l | some n ↦ refuse n p ]

-- 15: the first task that fits at no K
unfoldable pub check_choice : Option ℕ → Option Refusal
check_choice = refuse_at 15

-- what a call on values looks at; none or [] where it has no such input
pub record Inputs : Type 0 where
  pub tasks : Tasks
  pub single : Option ℕ
  pub count : Option ℕ
  pub lent : List Lent
  pub kept : Option (ℕ → ℕ)
  pub releases : List Release
  pub unfit : Option ℕ

-- the order of checks: the sheet (5, 4, then 6 and 17 by task, then 18), 14, the list's count (10), 13, 12, the releases in order (7, 8, 9), then 15
unfoldable pub refusal_of : Inputs → Option Refusal
refusal_of c =
    first_refusal
    (check_tasks c.tasks
    ∷ check_task c.tasks c.single
    ∷ check_count c.count
    ∷ check_slots c.lent
    ∷ check_kept c.tasks c.kept
    ∷ check_releases c.tasks 0 0 c.releases
    ∷ check_choice c.unfit
    ∷ [])

-- the answer of a call on values: the first refusal, else the value
unfoldable pub answer_of : {A : Type 0} → Inputs → A → Answer A
answer_of c a = elim (refusal_of c) [ none ↦ answered a | some r ↦ refused r ]
