-- Releases of one task, the x-th of them d_S(x) ticks after a base tick.
use Rattle.std.specs.Prelude.{ℕ, ◌+◌}
use Rattle.model.specs.Gap.{gap}

-- the x-th release
abbrev pub gap_time : ℕ → ℕ → ℕ → ℕ → ℕ
gap_time P S base x = base + gap P S x
