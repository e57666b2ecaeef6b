-- Reasons and their numbers.
use Rattle.std.specs.Prelude.{◌≡◌}
use Rattle.std.proofs.Common.{refl}
use Rattle.refusal.specs.declared.Reason.{Reason}
use Rattle.refusal.specs.declared.Reason.TheVariants.{UnknownKind, CutOff, TaskAfterRelease, TooManyTasks, NoTask, OutOfRange, ReleaseTask, ReleaseTick, ReleaseCost, TooManyReleases, ByteAfterEnd, KeptOverJitter, ShortSlice, NoSuchTask, Unfit, Line, Charge, Frame, Stale, TooSoon}
use Rattle.refusal.specs.Refusal.{number_of, reason_of}

-- the reason of a reason's number is that reason
pub reason_of_number : (r : Reason) → reason_of (number_of r) ≡ r
reason_of_number UnknownKind = refl
reason_of_number CutOff = refl
reason_of_number TaskAfterRelease = refl
reason_of_number TooManyTasks = refl
reason_of_number NoTask = refl
reason_of_number OutOfRange = refl
reason_of_number ReleaseTask = refl
reason_of_number ReleaseTick = refl
reason_of_number ReleaseCost = refl
reason_of_number TooManyReleases = refl
reason_of_number ByteAfterEnd = refl
reason_of_number KeptOverJitter = refl
reason_of_number ShortSlice = refl
reason_of_number NoSuchTask = refl
reason_of_number Unfit = refl
reason_of_number Line = refl
reason_of_number Charge = refl
reason_of_number Frame = refl
reason_of_number Stale = refl
reason_of_number TooSoon = refl
