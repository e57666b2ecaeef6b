-- The first i slots hold the work of the oldest jobs of the first i tasks.
use Prim.Native.Nat.{◌≤◌}
use lib.ListN.{get_or}
use Rattle.model.specs.Slots.{Holds}
use Rattle.queues.specs.Queues.{work_of}
use Rattle.queues.proofs.first_work.Given as goal

abbrev pub invariant-loop-i : goal.invariant-loop-i
invariant-loop-i l = (l.i ≤ l.tasks) × Holds (λ x. work_of l.cost l.charge l.n (get_or l.head x 0)) l.i 32 l.left
