use Prim.Native.Nat.{◌+◌}
use native.Mathlib.Omega.{arith}
use Rattle.frame.proofs.ColumnLaws.{Summed, summed_none, summed_next, summed_all}
use Rattle.frame.proofs.SupplySlices.within.Goals.{After-part_of-sum}
use Rattle.frame.proofs.SupplySlices.within.Goals as goal

-- one window more
next : (c : After-part_of-sum)
    → Summed c.args.self.now.first.now c.args.self.now.size.now c.args.self.now.count
    c.args.x (c.loop-k.k + 1) (c.loop-k.sum + c.part_of-sum.result)
next c =
    summed_next _ _ _ c.requires _ _ _ _ c.loop-k.invariant c.loop-k-test.true c.part_of-sum.ensures

pub loop-k-init : goal.loop-k-init
loop-k-init c = summed_none _ _ _ c.requires _

pub offset_bounds-self-k : goal.offset_bounds-self-k
offset_bounds-self-k c = omega (arith, c.requires.few)

pub bounds-self-k : goal.bounds-self-k
bounds-self-k c = omega (arith, c.requires.first_long)

pub offset_bounds-self-k-in-loop-k : goal.offset_bounds-self-k-in-loop-k
offset_bounds-self-k-in-loop-k c = omega (arith, c.requires.few)

pub bounds-self-k-in-loop-k : goal.bounds-self-k-in-loop-k
bounds-self-k-in-loop-k c = omega (arith, c.requires.size_long)

pub overflow_add-sum : goal.overflow_add-sum
overflow_add-sum c = omega (arith, (next (goal.at.overflow_add-sum c).After-part_of-sum).high, (next (goal.at.overflow_add-sum c).After-part_of-sum).up_to, c.requires.few)

pub loop-k-preserved : goal.loop-k-preserved
loop-k-preserved c = next (goal.at.loop-k-preserved c).After-part_of-sum

pub returns : goal.returns
returns c = summed_all _ _ _ c.requires _ _ _ c.loop-k.invariant c.loop-k-test.false
