use mathlib.Core.Path.{refl, ◌∙◌}
use native.Mathlib.Omega.{arith}
use lib.ListN.{set, length-set}
use Rattle.monitor.proofs.OpenLaws.{opening_none, opening_next, opening_all}
use Rattle.monitor.proofs.put_deadlines.Goals as goal

pub bounds-window-1 : goal.bounds-window-1
bounds-window-1 c = simp length-set (omega arith)

pub loop-i-init : goal.loop-i-init
loop-i-init c = opening_none _ _ c.args.window.now c.requires.0 c.requires.1

pub bounds-s-i : goal.bounds-s-i
bounds-s-i c = omega (arith, c.loop-i.invariant.few)

pub loop-i-preserved : goal.loop-i-preserved
loop-i-preserved c = opening_next _ _ _ _ _ _ c.loop-i.invariant c.loop-i-test.true refl

pub shape_of-window : goal.shape_of-window
shape_of-window c =
    let a = c.args in
    c.loop-i.invariant.same ∙ length-set (set a.window.now 0 a.s.count) 1 0 ∙ length-set a.window.now 0 a.s.count

pub returns : goal.returns
returns c = opening_all _ _ c.args.window.now _ _ c.loop-i.invariant (omega (arith, c.loop-i-test.false))
