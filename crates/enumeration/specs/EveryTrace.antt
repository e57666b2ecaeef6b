-- What the list of small traces is: the statements. proofs/EveryTraceLaws.antt proves it (`every_trace`), proofs/EmptyLaws.antt what there
-- is with a count or a bound of 0 (`empty_alone`), proofs/PassLaws.antt that its members pass the trace
-- check (`small_passes`), proofs/CountLaws.antt how many there are at most (`few_traces`), proofs/SameTraces.antt that entries past the count do not matter
-- (`same_traces`).
use Rattle.std.specs.Prelude.{ℕ, suc, ◌≤◌, ◌<◌, ◌≡◌, ◌⊎◌, List, [], ◌∷◌, length, get_or}
use Rattle.std.proofs.Math.Option.{none}
use Rattle.model.specs.Tasks.{Tasks, Release, release_at, Valid}
use Rattle.model.specs.Gap.{Legal}
use Rattle.model.specs.Legality.{first_close}
use Rattle.model.specs.Claims.{Trace}
use Rattle.model.specs.SameTasks.{SameTasks}
use Rattle.enumeration.specs.SmallTraces.{small_traces}
use Rattle.enumeration.specs.SmallCalls.{max_small_tasks, max_small_releases, max_small_ticks, small_call, count_call}

-- the (tick, task) of a release is before that of another: "by tick, then task"
abbrev pub Before : Release → Release → Type 0
Before r q = (r.tick < q.tick) ⊎ ((r.tick ≡ q.tick) × (r.task < q.task))

-- they have the same (tick, task)
abbrev pub SamePair : Release → Release → Type 0
SamePair r q = (r.tick ≡ q.tick) × (r.task ≡ q.task)

-- a legal trace of a sheet with up to n releases, ticks below t, full costs, by tick and then task
pub record Small (s : Tasks) (n t : ℕ) (l : List Release) : Type 0 where
  pub few : length l ≤ n
  pub known : (p : ℕ) → p < length l → (release_at l p).task < s.count
  pub early : (p : ℕ) → p < length l → (release_at l p).tick < t
  pub full : (p : ℕ) → p < length l → (release_at l p).cost ≡ s.cost (release_at l p).task
  pub ordered : (p : ℕ) → suc p < length l → Before (release_at l (suc p)) (release_at l p) → ⊥
  pub legal : (i : ℕ) → i < s.count → Legal s l i

-- traces of equal counts are "ordered by the first differing (tick, task)"
pub record FirstDiffers (a b : List Release) : Type 0 where
  pub at : ℕ
  pub inside : at < length a
  pub same : (p : ℕ) → p < at → SamePair (release_at a p) (release_at b p)
  pub before : Before (release_at a at) (release_at b at)

-- "fewer releases come first"
abbrev pub Earlier : List Release → List Release → Type 0
Earlier a b = (length a < length b) ⊎ ((length a ≡ length b) × FirstDiffers a b)

-- a list has a member at some position
pub record Member {A : Type 0} (none a : A) (l : List A) : Type 0 where
  pub at : ℕ
  pub inside : at < length l
  pub is : get_or l at none ≡ a

-- the list of all small traces: each member is one; each is a member; the order is the stated one; none is there twice; the first is the empty one
pub record Every (s : Tasks) (n t : ℕ) (all : List (List Release)) : Type 0 where
  pub sound : (p : ℕ) → p < length all → Small s n t (get_or all p [])
  pub whole : (l : List Release) → Small s n t l → Member [] l all
  pub order : (p q : ℕ) → p < q → q < length all → Earlier (get_or all p []) (get_or all q [])
  pub once : (p q : ℕ) → p < length all → q < length all → get_or all p [] ≡ get_or all q [] → p ≡ q
  pub some_trace : 1 ≤ length all
  pub first : get_or all 0 [] ≡ []

-- of every sheet with a task, for every count and tick bound
abbrev pub EveryTrace : Type 0
EveryTrace = (s : Tasks) (n t : ℕ) → 1 ≤ s.count → Every s n t (small_traces s n t)

-- with a count or a tick bound of 0 the empty trace alone
abbrev pub EmptyAlone : Type 0
EmptyAlone = (s : Tasks) (n t : ℕ) → (n ≡ 0) ⊎ (t ≡ 0) → small_traces s n t ≡ [] ∷ []

-- such a trace of a sheet within the limits is one of document 01's, and passes the trace check
abbrev pub SmallPasses : Type 0
SmallPasses = (s : Tasks) (n t : ℕ) (l : List Release) → Valid s → Small s n t l → Trace s l × (first_close s l ≡ none)

-- "at most 5,245,786"
abbrev pub max_small_traces : ℕ
max_small_traces = 5245786

abbrev pub FewTraces : Type 0
FewTraces = (s : Tasks) (n t : ℕ) → s.count ≤ max_small_tasks → n ≤ max_small_releases → t ≤ max_small_ticks → length (small_traces s n t) ≤ max_small_traces

-- entries of a sheet past its count do not matter
pub record SameSmall (s s' : Tasks) : Type 0 where
  pub trace : (n t p : ℕ) (task tick cost : List ℕ) → small_call s n t p task tick cost ≡ small_call s' n t p task tick cost
  pub count : (n t : ℕ) → count_call s n t ≡ count_call s' n t

abbrev pub SameTraces : Type 0
SameTraces = (s s' : Tasks) → SameTasks s s' → SameSmall s s'
