-- What a frame changes, and what it does not; proofs/WholeFrame.antt proves it (`whole_frame`, `frame_free`, `framed_uncounted`).
use Rattle.std.specs.Prelude.{ℕ, ◌<◌, ◌≡◌, true, List, length}
use Rattle.std.proofs.Math.Option.{Option, some, none}
use Rattle.model.specs.Frame.{Frame, InRules, ours_in}
use Rattle.model.specs.Tasks.{Tasks, with_frame, Release}
use Rattle.model.specs.Ready.{ready_list}
use Rattle.model.specs.Run.{finish_at}
use Rattle.model.specs.Stops.{stop_count}
use Rattle.model.specs.Verdict.{verdict}
use Rattle.model.specs.Evaluations.{evaluations}
use Rattle.model.specs.Choice.{scope, choice}
use Rattle.model.specs.Legality.{first_close}
use Rattle.model.specs.Claims.{Trace}

-- a frame that "is all window": every tick is ours
abbrev pub Whole : Frame → Type 0
Whole f = (t : ℕ) → ours_in (some f) t ≡ true

-- "a sheet without a frame is judged as one that is all window" (document 02, R-10): with such a frame a sheet has the verdicts, the choice and the runs that it has
-- with none
pub record SameAsNone (f : Frame) (s : Tasks) : Type 0 where
  pub verdicts : (k : ℕ → ℕ) (i : ℕ) → verdict (with_frame (some f) s) k i ≡ verdict (with_frame none s) k i
  pub scopes : scope (with_frame (some f) s) ≡ scope (with_frame none s)
  pub choices : choice (with_frame (some f) s) ≡ choice (with_frame none s)
  pub finish
      : (k : ℕ → ℕ) (l : List Release) → Trace s l → (p : ℕ) → p < length l
      → finish_at (with_frame (some f) s) k l p ≡ finish_at (with_frame none s) k l p
  pub halts : (k : ℕ → ℕ) (l : List Release) → Trace s l → stop_count (with_frame (some f) s) k l ≡ stop_count (with_frame none s) k l

abbrev pub WholeIsNone : Type 0
WholeIsNone = (f : Frame) → InRules f → Whole f → (s : Tasks) → SameAsNone f s

-- whatever the frame: ready ticks and the check of a trace do not depend on it. Arrival counts are those of a period and a kept jitter (`arrivals`), without a sheet
pub record FrameFree (o : Option Frame) (s : Tasks) : Type 0 where
  pub ready : (k : ℕ → ℕ) (l : List Release) → ready_list (with_frame o s) k l ≡ ready_list s k l
  pub close : (l : List Release) → first_close (with_frame o s) l ≡ first_close s l

abbrev pub FrameIsFree : Type 0
FrameIsFree = (o : Option Frame) (s : Tasks) → FrameFree o s

-- with a frame the number of evaluations is 0
abbrev pub FramedIsUncounted : Type 0
FramedIsUncounted = (f : Frame) (s : Tasks) (k : ℕ → ℕ) (i : ℕ) → evaluations (with_frame (some f) s) k i ≡ 0
