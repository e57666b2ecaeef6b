-- Three stores, one after the other.
use native.Mathlib.Omega.{arith}
use lib.ListN.{length-set}
use Rattle.rows.proofs.put_head.Goals as goal

pub bounds-row-161 : goal.bounds-row-161
bounds-row-161 c = simp length-set (omega arith)

pub returns : goal.returns
returns c = rw (c.from.ensures, c.scope_number.ensures)
