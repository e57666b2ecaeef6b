use Prim.Native.Nat.{◌-◌}
use lib.ListN.{length}
use Rattle.reader.proofs.ScanLaws.{Scanning}
use Rattle.reader.proofs.scan.Given as goal

abbrev pub invariant-loop-reason : goal.invariant-loop-reason
invariant-loop-reason l = Scanning l.f l.tasks l.releases l.before l.start l.at

abbrev pub decreases-loop-reason : goal.decreases-loop-reason
decreases-loop-reason l = length l.f - l.at
