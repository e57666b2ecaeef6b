use Prim.Native.Nat.{◌≤◌}
use native.Mathlib.Omega.{arith}
use Rattle.demand.proofs.FlatColumnLaws.{once_none, once_next, once_all}
use Rattle.demand.proofs.once_each.Goals.{After-from-sum}
use Rattle.demand.proofs.once_each.Goals as goal

load_small : (c : After-from-sum) → c.from-sum.result ≤ 1000000
load_small c =
    omega (
      arith,
      c.from-sum.ensures,
      c.requires.high c.loop-j.j c.loop-j-test.true,
    )

pub loop-j-init : goal.loop-j-init
loop-j-init c = once_none _ _

pub from-sum-requires : goal.from-sum-requires
from-sum-requires c = tt

pub overflow_add-sum : goal.overflow_add-sum
overflow_add-sum c = omega (arith, load_small (goal.at.overflow_add-sum c).After-from-sum)

pub loop-j-preserved : goal.loop-j-preserved
loop-j-preserved c = once_next _ _ _ _ _ c.loop-j.invariant c.loop-j-test.true c.from-sum.ensures (load_small (goal.at.loop-j-preserved c).After-from-sum)

pub returns : goal.returns
returns c = once_all _ _ _ _ c.requires.few c.loop-j.invariant c.loop-j-test.false
