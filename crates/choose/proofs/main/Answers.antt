-- What was written is not longer than the buffer.
use mathlib.Core.Path.{sym}
use native.Mathlib.Omega.{arith}
use lib.Seq.{length-take-le}
use Rattle.choose.proofs.main.Goals as goal

pub slice_bounds-write_all-end : goal.slice_bounds-write_all-end
slice_bounds-write_all-end c =
    sym
    (length-take-le c.choose_text-m.result c.choose_text-m.new.out
    (omega (arith, c.choose_text-m.ensures.line.small, c.choose_text-m.auto.out)))
