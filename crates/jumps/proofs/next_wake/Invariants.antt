-- After i tasks the least of their start ticks after t is known, and their places have gone on.
use Prim.Native.Nat.{◌≤◌, ◌<◌}
use Rattle.jumps.specs.Jumps.{Next, Awake}
use Rattle.jumps.proofs.next_wake.Given as goal

abbrev pub invariant-loop-i : goal.invariant-loop-i
invariant-loop-i l = (l.i ≤ l.tasks) × Awake l.n l.tasks l.task l.ready l.t l.coming l.due × Next l.n l.task l.ready (λ k. k < l.i) l.t l.least
