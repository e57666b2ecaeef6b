use native.Mathlib.Omega.{arith}
use Rattle.frame.proofs.ColumnLaws.{size_small, copied_none, copied_next, copied_all}
use Rattle.frame.proofs.columns_of.Goals as goal

pub loop-k-init : goal.loop-k-init
loop-k-init c = copied_none _ c.requires

pub offset_bounds-f-k : goal.offset_bounds-f-k
offset_bounds-f-k c = omega (arith, c.requires.count_high)

pub bounds-f-k : goal.bounds-f-k
bounds-f-k c = omega (arith, c.requires.count_high)

pub overflow_add-per : goal.overflow_add-per
overflow_add-per c = omega (arith, c.loop-k.invariant.added_high, c.requires.count_high, size_small c.args.f c.requires _ c.loop-k-test.true)

pub offset_bounds-first-k : goal.offset_bounds-first-k
offset_bounds-first-k c = omega (arith, c.requires.count_high)

pub bounds-first-k : goal.bounds-first-k
bounds-first-k c = omega (arith, c.requires.count_high)

pub offset_bounds-size-k : goal.offset_bounds-size-k
offset_bounds-size-k c = omega (arith, c.requires.count_high)

pub bounds-size-k : goal.bounds-size-k
bounds-size-k c = omega (arith, c.requires.count_high)

pub loop-k-preserved : goal.loop-k-preserved
loop-k-preserved c = copied_next _ c.requires _ _ _ _ c.loop-k.invariant c.loop-k-test.true

pub returns : goal.returns
returns c = copied_all _ c.requires _ _ _ _ c.loop-k.invariant c.loop-k-test.false
