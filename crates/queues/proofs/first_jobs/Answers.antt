use mathlib.Core.Path.{◌≡◌}
use native.Mathlib.Omega.{arith}
use Rattle.model.proofs.SlotLaws.{holds_none, holds_next}
use Rattle.queues.proofs.first_jobs.Goals as goal

pub loop-i-init : goal.loop-i-init
loop-i-init c = (omega arith, holds_none _ _)

pub loop-i-preserved : goal.loop-i-preserved
loop-i-preserved c = (omega arith, holds_next _ _ _ _ _ c.loop-i.invariant.1 (omega arith) c.next_of.ensures)

pub returns : goal.returns
returns c =
    let e : c.loop-i.i ≡ c.args.tasks = omega arith in
    rw e at c.loop-i.invariant.1
