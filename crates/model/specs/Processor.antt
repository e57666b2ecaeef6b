-- The processor: what a run takes as given beside the task set and the releases.
use Rattle.std.specs.Prelude.{ℕ, ◌+◌, Bool}
use Rattle.std.proofs.Math.Option.{Option, none}
use Rattle.model.specs.Frame.{Frame, ours_in, turn_of}

-- the first tick in which a job may run, given its ready tick; the ticks that a job takes, given its cost; the ticks in which the processor is ours; and a
-- number of ticks among which, from any tick on, one at least is ours
pub record Processor : Type 0 where
  pub start : ℕ → ℕ
  pub work : ℕ → ℕ
  pub ours : ℕ → Bool
  pub turn : ℕ

-- "pickup": the kernel looks at the ready list at tick ends only, so a job may run from the tick after its ready tick (document 02, R-2).
-- R(q) grows by it too (Bound)
abbrev pub pickup : ℕ
pickup = 1

-- the boards', with a charge S for each switch and a frame, if any: a job may run from the tick after its ready tick and "takes its cost plus S" (document 02,
-- R-4), and ours are the ticks of the frame's windows (R-10)
abbrev pub board : ℕ → Option Frame → Processor
board charge frame = record { start = λ ready. ready + pickup; work = λ cost. cost + charge; ours = ours_in frame; turn = turn_of frame }

-- those without a frame: every tick is ours
abbrev pub plain : ℕ → Processor
plain charge = board charge none
