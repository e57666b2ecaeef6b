use mathlib.Core.Path.{◌≡◌, ◌∙◌}
use native.Mathlib.Omega.{arith}
use Rattle.io.proofs.Counting.{prefix_len_of_le}
use Rattle.cases.specs.Cases.{tick_at}
use Rattle.cases.proofs.CaseLaws.{filling_start, filling_next, filling_end}
use Rattle.cases.proofs.ticks.Goals as goal

pub loop-i-init : goal.loop-i-init
loop-i-init c = filling_start 8 tick_at _ _ _ (omega arith)

pub loop-i-preserved : goal.loop-i-preserved
loop-i-preserved c = filling_next 8 tick_at _ _ _ _ _ _ (omega arith) (omega arith) c.tick_at.ensures c.loop-i.invariant

pub returns : goal.returns
returns c =
    let i_is : c.loop-i.i ≡ c.min-n.result = omega arith in (
    record {
      prefix_len = prefix_len_of_le _ _ (omega arith);
      numbers = rw i_is at (filling_end 8 tick_at _ _ _ _ _ (i_is ∙ c.min-n.ensures) c.loop-i.invariant);
    }
    )
