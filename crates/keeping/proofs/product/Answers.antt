-- A product of two small numbers.
use Prim.Native.Nat.{◌*◌, ◌≤◌}
use mathlib.Core.Path.{ap₂}
use native.Mathlib.Omega.{arith}
use native.Mathlib.Nat.{mul-le-mul}
use Rattle.keeping.proofs.product.Goals.{After-from-2}
use Rattle.keeping.proofs.product.Goals as goal

small : (c : After-from-2) → c.from.result * c.from-2.result ≤ 10000001000000
small c = mul-le-mul {n₂ = 10000001} {m₂ = 1000000} (omega arith) (omega arith)

pub overflow_mul-result : goal.overflow_mul-result
overflow_mul-result c = omega (arith, small (goal.at.overflow_mul-result c).After-from-2)

pub returns : goal.returns
returns c = record { is = ap₂ ◌*◌ c.from.ensures c.from-2.ensures; small = small (goal.at.returns c).After-from-2 }
