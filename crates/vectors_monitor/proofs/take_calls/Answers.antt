use native.Mathlib.Omega.{arith}
use Rattle.vectors_monitor.proofs.CallLaws.{brought_none, brought_next, brought_all}
use Rattle.vectors_monitor.proofs.take_calls.Goals as goal

pub loop-i-init : goal.loop-i-init
loop-i-init c = brought_none _ _ _

pub loop-i-preserved : goal.loop-i-preserved
loop-i-preserved c =
    let b = c.loop-i.invariant in
    let n = c.min-i-end.ensures in
    let h = c.loop-i-test.true in
    brought_next _ _ _ _ _ _ b (omega (arith, n, h)) c.take_call.ensures c.take_call.auto.window

pub shape_of-window : goal.shape_of-window
shape_of-window c = c.loop-i.invariant.long

pub returns : goal.returns
returns c = brought_all _ _ _ _ _ c.loop-i.invariant (omega (arith, c.min-i-end.ensures, c.loop-i-test.false))
