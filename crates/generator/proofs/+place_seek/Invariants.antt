-- The generator: pair after pair, each trace one release deeper. The releases still to be placed fall by one from one call of `seek` to the next, with `place`
-- between them.
use Prim.Native.Nat.{◌+◌, ◌*◌}
use Rattle.generator.proofs.DeeperLaws.{Seeking}
use Rattle.generator.proofs.+place_seek.Given as goal

abbrev pub decreases-place : goal.decreases-place
decreases-place l = 2 * l.n + 1

abbrev pub decreases-seek : goal.decreases-seek
decreases-seek l = 2 * l.n

abbrev pub invariant-seek-loop-y : goal.invariant-seek-loop-y
invariant-seek-loop-y l =
    Seeking l.g l.n l.x l.position l.at l.initial.task l.initial.tick l.initial.cost l.task l.tick l.cost l.left l.y
