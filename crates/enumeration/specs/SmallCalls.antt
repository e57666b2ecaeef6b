-- The calls on the list of small traces: what they check and answer.
use Rattle.std.specs.Prelude.{ℕ, zero, suc, List, [], ◌∷◌, ◌++◌, map, ltb, length, drop}
use Rattle.std.proofs.Math.Option.{Option, some, none}
use Rattle.model.specs.Tasks.{Tasks, Release}
use Rattle.model.specs.Refusal.{Refusal, Answer, refused, answered, answer_by, first_refusal}
use Rattle.model.specs.Checks.{refuse_if, check_tasks, check_slots}
use Rattle.model.specs.Calls.{lends}
use Rattle.enumeration.specs.SmallTraces.{small_traces}

-- "at most 3 tasks, up to 6 releases, ticks below a given number of at most 12"
abbrev pub max_small_tasks : ℕ
max_small_tasks = 3

abbrev pub max_small_releases : ℕ
max_small_releases = 6

abbrev pub max_small_ticks : ℕ
max_small_ticks = 12

-- "after the sheet's own checks, more tasks than 3 is refused with 4, then a larger count with 10, then a larger tick bound with 8; the place is the number
-- given"
unfoldable pub small_fault : Tasks → ℕ → ℕ → Option Refusal
small_fault s n t =
    first_refusal
    (check_tasks s
    ∷ refuse_if (ltb max_small_tasks s.count) 4 s.count
    ∷ refuse_if (ltb max_small_releases n) 10 n
    ∷ refuse_if (ltb max_small_ticks t) 8 t
    ∷ [])

-- the member of a list "at a position counted from 0 .., or none past the last"
unfoldable pub member_at : {A : Type 0} → List A → ℕ → Option A
member_at [] p = none
member_at (a ∷ l) zero = some a
member_at (a ∷ l) (suc p) = member_at l p

-- "13 comes last, and only for a trace that exists": the columns for task, tick and cost are as long as the trace
unfoldable pub check_room : Option (List Release) → List ℕ → List ℕ → List ℕ → Option Refusal
check_room none task tick cost = none
check_room (some l) task tick cost = check_slots (lends (length l) task ∷ lends (length l) tick ∷ lends (length l) cost ∷ [])

-- the refusal of a call for the trace at a position
unfoldable pub small_refusal : Tasks → ℕ → ℕ → ℕ → List ℕ → List ℕ → List ℕ → Option Refusal
small_refusal s n t p task tick cost = first_refusal (small_fault s n t ∷ check_room (member_at (small_traces s n t) p) task tick cost ∷ [])

-- "a call gives the legal trace at a position .., or none"
unfoldable pub small_call : Tasks → ℕ → ℕ → ℕ → List ℕ → List ℕ → List ℕ → Answer (Option (List Release))
small_call s n t p task tick cost = answer_by (small_refusal s n t p task tick cost) (member_at (small_traces s n t) p)

-- its answer as a number: how many releases the trace has
unfoldable pub length_in : Answer (Option (List Release)) → Answer (Option ℕ)
length_in (refused r) = refused r
length_in (answered none) = answered none
length_in (answered (some l)) = answered (some (length l))

-- what stands in a lent column afterwards: that of the trace, and then what the slots past it held; where there is none, and after a refusal, what it held
unfoldable pub small_column : (Release → ℕ) → Answer (Option (List Release)) → List ℕ → List ℕ
small_column f (refused r) held = held
small_column f (answered none) held = held
small_column f (answered (some l)) held = map f l ++ drop (length l) held

-- how many small traces there are
unfoldable pub count_call : Tasks → ℕ → ℕ → Answer ℕ
count_call s n t = answer_by (small_fault s n t) (length (small_traces s n t))
