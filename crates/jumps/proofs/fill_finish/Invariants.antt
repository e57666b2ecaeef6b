-- Each turn begins at a moment: the state of the run at its tick. The next moment is later, and none is after the largest finish tick.
use Prim.Native.Nat.{◌-◌}
use Rattle.frame.specs.WindowColumns.{frame_in}
use Rattle.queues.specs.Queues.{max_finish}
use Rattle.jumps.proofs.MomentLaws.{Moment}
use Rattle.jumps.proofs.fill_finish.Given as goal

abbrev pub invariant-loop-head : goal.invariant-loop-head
invariant-loop-head l = Moment (frame_in l.supply) l.n l.tasks l.task l.cost l.charge l.ready l.initial.finish l.t l.wake l.stops l.head l.since l.left l.coming l.due l.finish

abbrev pub decreases-loop-head : goal.decreases-loop-head
decreases-loop-head l = max_finish - l.t
