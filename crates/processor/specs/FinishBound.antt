-- A bound of every finish of the run of a list; proofs/FinishBound.antt proves it (`finish_bound`).
use Rattle.std.specs.Prelude.{ℕ, ◌+◌, ◌*◌, ◌≤◌, ◌<◌, ◌≡◌, List, length}
use Rattle.std.proofs.Math.Option.{some}
use Rattle.model.specs.Frame.{Frame, InRules}
use Rattle.model.specs.Processor.{pickup}
use Rattle.model.specs.Tasks.{Tasks, load, board_of, Release, release_at}
use Rattle.model.specs.Run.{finish_at}
use Rattle.model.specs.Claims.{Trace}

-- the frame of a sheet, if any, is within the rules (a field of `Valid`)
abbrev pub Framed : Tasks → Type 0
Framed s = (f : Frame) → s.frame ≡ some f → InRules f

-- a list whose releases are at tick T or before, of tasks whose period and load are at most X: every finish is at most T, the pickup, and X turns of the frame
-- for each release. Without a frame a turn is one tick
abbrev pub FinishBounded : Type 0
FinishBounded =
    (s : Tasks) → Framed s → (k : ℕ → ℕ) (l : List Release) → Trace s l
    → (T X : ℕ) → ((p : ℕ) → p < length l → (release_at l p).tick ≤ T)
    → ((i : ℕ) → i < s.count → (s.period i ≤ X) × (load s i ≤ X)) → (p : ℕ) → p < length l → finish_at s k l p ≤ T + pickup + X * length l * (board_of s).turn
