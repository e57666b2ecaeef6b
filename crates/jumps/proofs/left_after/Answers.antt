-- Our ticks between t and u are a difference of two numbers of ticks of ours from 0 on.
use Prim.Native.Nat.{◌+◌, ◌-◌}
use mathlib.Core.Path.{◌≡◌, sym, ap, ◌∙◌}
use native.Mathlib.Omega.{arith}
use Rattle.model.specs.Frame.{ours_in, supply}
use Rattle.model.proofs.SupplyLaws.{supply_from}
use Rattle.frame.specs.WindowColumns.{frame_in}
use Rattle.jumps.proofs.left_after.Goals.{After-our_ticks}
use Rattle.jumps.proofs.left_after.Goals as goal

between : (c : After-our_ticks)
    → let a = c.args in
    c.our_ticks.result
    ≡ c.our_ticks-before.result + supply (ours_in (frame_in a.supply.now)) a.t (a.u - a.t)
between c =
    let a = c.args in
    let ours = ours_in (frame_in a.supply.now) in
    let e : a.t + (a.u - a.t) ≡ a.u = omega (arith, c.requires.t_le_u) in
    c.our_ticks.ensures
    ∙ ap (supply ours 0) (sym e)
    ∙ supply_from ours a.t (a.u - a.t)
    ∙ ap (λ x. x + supply ours a.t (a.u - a.t)) (sym c.our_ticks-before.ensures)

pub overflow_sub-done : goal.overflow_sub-done
overflow_sub-done c = omega (arith, between c)

pub overflow_cast-result : goal.overflow_cast-result
overflow_cast-result c = omega (arith, between c, c.requires)

pub overflow_sub-result : goal.overflow_sub-result
overflow_sub-result c = omega (arith, between c, c.requires)

pub returns : goal.returns
returns c = omega (arith, between c, c.requires)
