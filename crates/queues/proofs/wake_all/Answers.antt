use mathlib.Core.Path.{◌≡◌, refl, ◌∙◌}
use native.Mathlib.Omega.{arith}
use Rattle.queues.specs.Queues.{earliest}
use Rattle.queues.proofs.SearchedLaws.{earliest_next}
use Rattle.queues.proofs.wake_all.Goals as goal

pub loop-i-init : goal.loop-i-init
unfolding earliest
loop-i-init c = (omega arith, refl)

pub loop-i-preserved : goal.loop-i-preserved
loop-i-preserved c = (
  omega arith,
  c.min-wake.ensures ∙ rw c.wake_of.ensures (earliest_next _ _ _ c.loop-i.invariant.1),
)

pub returns : goal.returns
returns c =
    let e : c.loop-i.i ≡ c.args.tasks = omega arith in
    rw e at c.loop-i.invariant.1
