-- From k on every tick is over the short limit.
use Prim.Native.Nat.{ℕ, ◌≤◌, ◌<◌}
use lib.ListN.{get_or}
use Rattle.model.specs.Limits.{max_short_tick}
use Rattle.writer.proofs.short_count.Given as goal

abbrev pub invariant-loop-k : goal.invariant-loop-k
invariant-loop-k l = (p : ℕ) → l.k ≤ p → p < l.count → max_short_tick < get_or l.tick p 0
