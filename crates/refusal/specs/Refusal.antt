-- What a refusal of the code means: document 01's number and place.
use Rattle.std.specs.Prelude.{ℕ, ◌-◌, Result, Ok, Err, [], ◌∷◌, get_or}
use Rattle.std.specs.Prelude as std
use Rattle.std.proofs.Math.Option.{Option, some, none}
use Rattle.model.specs.Refusal as model
use Rattle.refusal.specs.declared.Reason.{Reason}
use Rattle.refusal.specs.declared.Reason.TheVariants.{UnknownKind, CutOff, TaskAfterRelease, TooManyTasks, NoTask, OutOfRange, ReleaseTask, ReleaseTick, ReleaseCost, TooManyReleases, ByteAfterEnd, KeptOverJitter, ShortSlice, NoSuchTask, Unfit, Line, Charge, Frame, Stale, TooSoon}
use Rattle.refusal.specs.declared.Refusal.{Refusal}

-- the number of a reason in the table of refusals
abbrev pub number_of : Reason → ℕ
number_of UnknownKind = 1
number_of CutOff = 2
number_of TaskAfterRelease = 3
number_of TooManyTasks = 4
number_of NoTask = 5
number_of OutOfRange = 6
number_of ReleaseTask = 7
number_of ReleaseTick = 8
number_of ReleaseCost = 9
number_of TooManyReleases = 10
number_of ByteAfterEnd = 11
number_of KeptOverJitter = 12
number_of ShortSlice = 13
number_of NoSuchTask = 14
number_of Unfit = 15
number_of Line = 16
number_of Charge = 17
number_of Frame = 18
number_of Stale = 19
number_of TooSoon = 20

-- the refusal that an answer holds, if any
abbrev pub refusal_in : {A : Type 0} → Result A Refusal → Option model.Refusal
refusal_in (Ok a) = none
refusal_in (Err e) = model.refuse (number_of e.reason) e.place

-- what an answer means, given what its value means
abbrev pub answer_in : {A B : Type 0} → (A → B) → Result A Refusal → model.Answer B
answer_in f (Ok a) = model.answered (f a)
answer_in f (Err e) = model.refused (record { number = number_of e.reason; place = e.place })

-- an option of the code as the definitions have it
abbrev pub option_in : {A : Type 0} → std.Option A → Option A
option_in std.None = none
option_in (std.Some a) = some a

-- the reason of a number of the table; 0 counts as the first number, a larger one as the last
abbrev pub reason_of : ℕ → Reason
reason_of n =
    get_or
    (UnknownKind ∷ CutOff ∷ TaskAfterRelease ∷ TooManyTasks ∷ NoTask ∷ OutOfRange ∷ ReleaseTask ∷ ReleaseTick ∷ ReleaseCost ∷ TooManyReleases ∷ ByteAfterEnd ∷ KeptOverJitter
    ∷ ShortSlice ∷ NoSuchTask ∷ Unfit ∷ Line ∷ Charge ∷ Frame ∷ Stale ∷ [])
    (n - 1) TooSoon
