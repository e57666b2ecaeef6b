-- The factor is below 64 bits, its parts below 32.
use mathlib.Core.Path.{refl}
use native.Mathlib.Omega.{arith}
use native.Mathlib.Nat.{div-mul-le_self}
use Rattle.quotient.specs.Factor.{factor}
use Rattle.quotient.proofs.FactorLaws.{factor_at, factor_high}
use Rattle.quotient.proofs.factor_of.Goals as goal

pub overflow_cast-result : goal.overflow_cast-result
overflow_cast-result c =
    rw (c.from-p.ensures, ← factor_at c.args.period)
    (omega (arith, factor_high c.args.period c.requires, div-mul-le_self (factor c.args.period) 1048576))

pub returns : goal.returns
returns c = rw (c.from-p.ensures, ← factor_at c.args.period) refl
