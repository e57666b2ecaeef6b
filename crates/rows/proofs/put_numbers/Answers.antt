use native.Mathlib.Omega.{arith}
use Rattle.rows.proofs.BlockLaws.{written_none}
use Rattle.rows.proofs.RowLaws.{numbers_next, numbers_all}
use Rattle.rows.proofs.put_numbers.Goals as goal

pub loop-i-init : goal.loop-i-init
loop-i-init c = written_none _ _ _ _ _ (omega arith)

pub loop-i-preserved : goal.loop-i-preserved
loop-i-preserved c = numbers_next _ _ _ _ _ _ _ c.loop-i.invariant c.loop-i-test.true c.number_below-x.ensures

pub returns : goal.returns
returns c = numbers_all _ _ _ _ _ _ c.requires.0 c.loop-i.invariant c.loop-i-test.false
