use mathlib.Core.Path.{subst}
use native.Mathlib.Omega.{arith}
use Rattle.monitor.specs.Layout.{deadline_in}
use Rattle.monitor.specs.MonitorCalls.{tallied}
use Rattle.monitor.proofs.TallyLaws.{Tallying, tallying_none, tallying_next, tallying_jobs, tallying_late, tallying_all}
use Rattle.monitor.proofs.tally_of.Goals as goal

pub loop-k-init : goal.loop-k-init
loop-k-init c = tallying_none _ _ _ _ (omega arith) (omega arith)

pub with_next-t-requires : goal.with_next-t-requires
with_next-t-requires c =
    let f = c.loop-k.invariant in
    let h = c.loop-k-test.true in
    (omega (arith, tallying_jobs _ _ _ _ _ _ f h), omega (arith, tallying_late _ _ _ _ _ _ f h))

pub loop-k-preserved : goal.loop-k-preserved
loop-k-preserved c = tallying_next _ _ _ _ _ _ _ c.loop-k.invariant c.loop-k-test.true c.with_next-t.ensures

pub returns : goal.returns
returns c =
    let w = c.args.window.now in
    let i = c.args.task in
    let e = c.used_in-used.ensures in
    tallying_all w i (deadline_in w i) c.loop-k.k (tallied c.loop-k.t)
    (subst (λ u. Tallying w i (deadline_in w i) u c.loop-k.k (tallied c.loop-k.t)) e c.loop-k.invariant) (omega (arith, c.loop-k-test.false))
