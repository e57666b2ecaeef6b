use native.Mathlib.Omega.{arith}
use Rattle.demand.proofs.FlatColumnLaws.{copied_none, copied_next, copied_all}
use Rattle.demand.proofs.columns_of.Goals as goal

pub loop-j-init : goal.loop-j-init
loop-j-init c = copied_none _

-- E + S is at most P
pub overflow_add-loads : goal.overflow_add-loads
overflow_add-loads c =
    let v = c.requires in
    let l = c.loop-j-test.true in
    omega (arith, (v.carried _ l).load_period, (v.in_range_lem _ l).period_high)

pub loop-j-preserved : goal.loop-j-preserved
loop-j-preserved c = copied_next _ _ _ _ c.requires.few_tasks c.loop-j.invariant c.loop-j-test.true

pub returns : goal.returns
returns c = copied_all _ _ _ _ c.loop-j.invariant c.loop-j-test.false
