-- The products are below 64 bits, and give the quotient rounded up.
use native.Mathlib.Omega.{arith}
use Rattle.quotient.proofs.FactorLaws.{high_product, low_product, ceil_is, ceil_high}
use Rattle.quotient.proofs.ceil_div.Goals as goal

pub overflow_mul-result : goal.overflow_mul-result
overflow_mul-result c = rw (c.from-y.ensures, c.from.ensures) (omega (arith, high_product _ _ _ _ c.requires))

pub overflow_mul-result-2 : goal.overflow_mul-result-2
overflow_mul-result-2 c = rw (c.from-y.ensures, c.from-2.ensures) (omega (arith, low_product _ _ _ _ c.requires))

pub overflow_add-result : goal.overflow_add-result
overflow_add-result c =
    rw (c.from-y.ensures, c.from.ensures, c.from-2.ensures)
    (omega (arith, high_product _ _ _ _ c.requires, low_product _ _ _ _ c.requires))

pub overflow_cast-result : goal.overflow_cast-result
overflow_cast-result c =
    rw (c.from-y.ensures, c.from.ensures, c.from-2.ensures)
    (rw (ceil_is _ _ _ _ c.requires)
    (omega (arith, ceil_high _ _ c.requires.dividend c.requires.period_high)))

pub returns : goal.returns
returns c = rw (c.from-y.ensures, c.from.ensures, c.from-2.ensures) (ceil_is _ _ _ _ c.requires)
