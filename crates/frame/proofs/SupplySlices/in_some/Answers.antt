use native.Mathlib.Omega.{arith}
use Rattle.frame.proofs.ColumnLaws.{outside_none, outside_next, outside_here, outside_all}
use Rattle.frame.proofs.SupplySlices.in_some.Goals as goal

pub loop-k-init : goal.loop-k-init
loop-k-init c = outside_none _ _ _ _

pub offset_bounds-self-k : goal.offset_bounds-self-k
offset_bounds-self-k c = omega (arith, c.requires.few)

pub bounds-self-k : goal.bounds-self-k
bounds-self-k c = omega (arith, c.requires.first_long)

pub offset_bounds-self-k-in-loop-k : goal.offset_bounds-self-k-in-loop-k
offset_bounds-self-k-in-loop-k c = omega (arith, c.requires.few)

pub bounds-self-k-in-loop-k : goal.bounds-self-k-in-loop-k
bounds-self-k-in-loop-k c = omega (arith, c.requires.size_long)

pub returns-then-in_window : goal.returns-then-in_window
returns-then-in_window c =
    let a = c.args in
    outside_here a.self.now.first.now a.self.now.size.now a.self.now.count a.x _ _ c.loop-k-test.true c.in_window.ensures c.if-in_window.true

pub loop-k-preserved : goal.loop-k-preserved
loop-k-preserved c = outside_next _ _ _ _ _ _ c.loop-k.invariant c.loop-k-test.true c.in_window.ensures c.if-in_window.false

pub returns : goal.returns
returns c = outside_all _ _ _ _ _ c.loop-k.invariant c.loop-k-test.false
