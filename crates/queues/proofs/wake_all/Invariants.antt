-- The loop has the earliest tick of the first i tasks.
use Prim.Native.Nat.{◌≤◌}
use mathlib.Core.Path.{◌≡◌}
use lib.ListN.{get_or}
use Rattle.queues.specs.Queues.{wake_of, earliest}
use Rattle.queues.proofs.wake_all.Given as goal

abbrev pub invariant-loop-i : goal.invariant-loop-i
invariant-loop-i l = (l.i ≤ l.tasks) × (l.wake ≡ earliest (λ x. wake_of l.ready l.n (get_or l.head x 0)) l.i)
