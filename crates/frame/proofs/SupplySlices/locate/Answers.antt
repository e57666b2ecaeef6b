use native.Mathlib.Omega.{arith}
use Rattle.frame.proofs.ColumnLaws.{passed_none, passed_next, passed_here, passed_all}
use Rattle.frame.proofs.SupplySlices.locate.Goals as goal

pub loop-k-init : goal.loop-k-init
loop-k-init c = passed_none _ _ _ c.requires.windows _ c.requires.le_r

pub offset_bounds-self-k : goal.offset_bounds-self-k
offset_bounds-self-k c = omega (arith, c.requires.windows.few)

pub bounds-self-k : goal.bounds-self-k
bounds-self-k c = omega (arith, c.requires.windows.size_long)

pub offset_bounds-self-k-then-left-length : goal.offset_bounds-self-k-then-left-length
offset_bounds-self-k-then-left-length c = omega (arith, c.requires.windows.few)

pub bounds-self-k-then-left-length : goal.bounds-self-k-then-left-length
bounds-self-k-then-left-length c = omega (arith, c.requires.windows.first_long)

pub overflow_add-result : goal.overflow_add-result
overflow_add-result c =
    let w = c.requires.windows in
    omega (arith, w.first_high _ c.loop-k-test.true, w.size_high _ c.loop-k-test.true)

pub returns-then-left-length : goal.returns-then-left-length
returns-then-left-length c = passed_here _ _ _ c.requires.windows _ _ _ c.loop-k.invariant c.loop-k-test.true c.if-left-length.true

pub loop-k-preserved : goal.loop-k-preserved
loop-k-preserved c = passed_next c.args.self.now.first.now _ _ c.requires.windows _ _ _ c.loop-k.invariant c.loop-k-test.true c.if-left-length.false

pub returns : goal.returns
returns c = absurd (passed_all _ _ _ c.requires.windows _ _ _ c.loop-k.invariant c.requires.r_bound c.loop-k-test.false)
