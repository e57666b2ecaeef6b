-- `gap` computes the gap, and the product of two numbers of 32 bits fits into 64.
use Prim.Native.Nat.{ℕ, ◌-◌, ◌*◌, ◌<◌}
use mathlib.Core.Path.{ap₂, ◌∙◌}
use native.Mathlib.Nat.{mul-le-mul}
use native.Mathlib.Omega.{arith}
use Rattle.model.specs.Gap.{gap}
use Rattle.shaper.proofs.gap.Goals as goal

product_fits : (a b : ℕ) → a < 4294967296 → b < 4294967296 → a * b < 18446744073709551616
product_fits a b l g = omega (arith, mul-le-mul {n₁ = a} {m₁ = b} {n₂ = 4294967295} {m₂ = 4294967295} (omega arith) (omega arith))

pub overflow_mul-from : goal.overflow_mul-from
overflow_mul-from c = omega (arith, product_fits c.from.result c.from-2.result (omega arith) (omega arith))

pub returns : goal.returns
unfolding gap
returns c = c.saturating_sub.ensures ∙ ap₂ ◌-◌ (ap₂ ◌*◌ c.from.ensures c.from-2.ensures) c.from-3.ensures
