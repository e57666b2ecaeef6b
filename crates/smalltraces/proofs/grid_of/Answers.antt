-- The first three entries of the sheet, and its pairs.
use native.Mathlib.Omega.{arith}
use Rattle.smalltraces.proofs.GridLaws.{few_pairs}
use Rattle.smalltraces.proofs.grid_of.Goals as goal

pub overflow_mul-result : goal.overflow_mul-result
overflow_mul-result c =
    omega (
      arith,
      few_pairs c.args.ticks c.args.s.count
          c.requires.1 c.requires.0,
    )

pub returns : goal.returns
returns c = rw (c.timing_of.ensures, c.timing_of-2.ensures, c.timing_of-3.ensures)
