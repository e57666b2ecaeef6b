-- Arrival count.
use Rattle.std.specs.Prelude.{ℕ, zero, suc, ◌+◌, ◌-◌, ◌/◌}

-- ceil(a ÷ b)
unfoldable pub ceil_div : ℕ → ℕ → ℕ
ceil_div a b = (a + b - 1) / b

-- "arrival count": zero in 0 ticks, and ceil((t + K) ÷ P) in t ticks for t ≥ 1 (α for K = J, else σ)
unfoldable pub arrivals : ℕ → ℕ → ℕ → ℕ
arrivals P K zero = 0
arrivals P K (suc t) = ceil_div (suc t + K) P
