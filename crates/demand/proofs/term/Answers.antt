-- The product is the definition's term, and below 64 bits.
use native.Mathlib.Omega.{arith}
use Rattle.demand.proofs.FlatColumnLaws.{term_high, term_is, divided}
use Rattle.demand.proofs.term.Goals as goal

pub ceil_div-requires : goal.ceil_div-requires
ceil_div-requires c =
    let may = c.requires in
    divided _ _ _ _ _ _ may.small may.factor (omega (arith, may.small.keep_high, may.tried.high))

pub overflow_mul-result : goal.overflow_mul-result
overflow_mul-result c =
    rw (c.from.ensures, c.from-2.ensures, c.ceil_div.ensures)
    (omega (arith, term_high _ _ _ _ c.requires.small c.requires.tried))

pub returns : goal.returns
returns c =
    rw (c.from.ensures, c.from-2.ensures, c.ceil_div.ensures)
    (term_is _ _ _ _ c.requires.small c.requires.tried)
