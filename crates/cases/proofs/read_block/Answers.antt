-- A block is read to a part of the buffer.
use native.Mathlib.Omega.{arith}
use mathlib.Core.Path.{sym}
use lib.ListN.{length-append}
use lib.Seq.{length-take-le}
use Rattle.io.proofs.Counting.{prefix_len_of_le}
use Rattle.cases.proofs.read_block.Goals as goal

pub slice_bounds-read_full-end-3 : goal.slice_bounds-read_full-end-3
slice_bounds-read_full-end-3 c = sym (length-take-le _ _ (omega arith))

pub returns : goal.returns
returns c = prefix_len_of_le _ _ (simp length-append (omega (arith, c.read_full-2.ensures.0)))
