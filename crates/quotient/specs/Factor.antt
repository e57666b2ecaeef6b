-- Division by a period as a product: y ÷ P is y × m ÷ 2^44 for the factor m of P.
use Rattle.std.specs.Prelude.{ℕ, ◌+◌, ◌/◌, ◌%◌, ◌^◌, ◌≤◌, ◌≡◌}
use Rattle.model.specs.Limits.{max_time, horizon_tick}
use Rattle.model.specs.Arrival.{ceil_div}
use Rattle.quotient.specs.declared.Factor.{Factor}

-- the factor of a period: 2^44 ÷ P rounded up
unfoldable pub factor : ℕ → ℕ
factor P = ceil_div (2 ^ 44) P

-- its parts, high × 2^20 + low: a product with either stays below 64 bits, whatever the period
abbrev pub high_of : ℕ → ℕ
high_of P = factor P / 2 ^ 20

abbrev pub low_of : ℕ → ℕ
low_of P = factor P % 2 ^ 20

abbrev pub parts_of : ℕ → Factor
parts_of P = record { high = high_of P; low = low_of P }

-- h and l are the parts of the factor of a period
pub record IsFactor (P h l : ℕ) : Type 0 where
  pub high_is : h ≡ high_of P
  pub low_is : l ≡ low_of P

-- ceil(x ÷ P) can be worked out with h and l: x is t + K of a t that the search tries
pub record Divided (x P h l : ℕ) : Type 0 where
  pub period_low : 1 ≤ P
  pub period_high : P ≤ max_time
  pub dividend : x ≤ horizon_tick + max_time
  pub by : IsFactor P h l
