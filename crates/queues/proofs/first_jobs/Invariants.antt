-- The first i slots hold the oldest jobs of the first i tasks.
use Prim.Native.Nat.{◌≤◌}
use Rattle.model.specs.Slots.{Holds}
use Rattle.queues.specs.Queues.{next_of}
use Rattle.queues.proofs.first_jobs.Given as goal

abbrev pub invariant-loop-i : goal.invariant-loop-i
invariant-loop-i l = (l.i ≤ l.tasks) × Holds (λ x. next_of l.task l.n x 0) l.i 32 l.head
