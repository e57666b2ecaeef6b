-- The first i slots hold the start ticks of the oldest jobs of the first i tasks.
use Prim.Native.Nat.{◌≤◌}
use lib.ListN.{get_or}
use Rattle.model.specs.Slots.{Holds}
use Rattle.queues.specs.Queues.{wake_of}
use Rattle.jumps.proofs.first_starts.Given as goal

abbrev pub invariant-loop-i : goal.invariant-loop-i
invariant-loop-i l = (l.i ≤ l.tasks) × Holds (λ x. wake_of l.ready l.n (get_or l.head x 0)) l.i 32 l.since
