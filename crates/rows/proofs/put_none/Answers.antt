use native.Mathlib.Omega.{arith}
use Rattle.rows.proofs.BlockLaws.{written_none}
use Rattle.rows.proofs.RowLaws.{blank_next, blank_all}
use Rattle.rows.proofs.put_none.Goals as goal

pub loop-i-init : goal.loop-i-init
loop-i-init c = written_none _ _ _ _ _ (omega arith)

pub loop-i-preserved : goal.loop-i-preserved
loop-i-preserved c = blank_next _ _ _ c.loop-i.invariant c.loop-i-test.true

pub returns : goal.returns
returns c = blank_all _ _ _ c.loop-i.invariant c.loop-i-test.false
