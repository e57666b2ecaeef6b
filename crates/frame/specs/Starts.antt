-- The starts that the largest search needs (document 02, R-10): the ends of the windows. proofs/WindowEnds.antt proves that no other start matters (`window_ends`).
use Rattle.std.specs.Prelude.{ℕ, ◌+◌, ◌%◌}
use Rattle.std.proofs.Math.Option.{Option, some, none}
use Rattle.model.specs.Frame.{Frame}

-- their number: one where there is no frame
abbrev pub starts_of : Option Frame → ℕ
starts_of none = 1
starts_of (some f) = f.count

-- start k: the place in the frame of the tick after window k
abbrev pub start_at : Option Frame → ℕ → ℕ
start_at none k = 0
start_at (some f) k = (f.first k + f.size k) % f.ticks
