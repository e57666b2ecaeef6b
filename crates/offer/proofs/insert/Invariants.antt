-- The loop has filled the entries below i.
use Prim.Native.Nat.{suc, ◌≤◌, ◌<◌}
use Rattle.taskset.specs.TaskSet.{entry_of}
use Rattle.taskset.proofs.FilledLaws.{Filled}
use Rattle.admission.specs.Offers.{inserted}
use Rattle.offer.proofs.insert.Given as goal

abbrev pub invariant-loop-i : goal.invariant-loop-i
invariant-loop-i l = (l.i ≤ suc l.s.count) × (l.s.count < 32) × Filled (inserted l.place l.t (entry_of l.s)) l.tasks l.i
