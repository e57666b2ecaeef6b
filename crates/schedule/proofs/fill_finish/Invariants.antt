-- At the beginning of tick t the columns hold the state of the run. A tick passes while some job is unfinished, so it is before the largest finish tick.
use Prim.Native.Nat.{◌-◌}
use Rattle.frame.specs.WindowColumns.{frame_in}
use Rattle.queues.specs.Queues.{max_finish}
use Rattle.schedule.proofs.FinishFillLaws.{Filling}
use Rattle.schedule.proofs.fill_finish.Given as goal

abbrev pub invariant-loop-t : goal.invariant-loop-t
invariant-loop-t l = Filling (frame_in l.supply) l.n l.tasks l.task l.cost l.charge l.ready l.initial.finish l.t l.wake l.head l.left l.finish

abbrev pub decreases-loop-t : goal.decreases-loop-t
decreases-loop-t l = max_finish - l.t
