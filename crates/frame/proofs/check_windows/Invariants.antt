-- The windows below k are within the rules, and low is the least first tick of window k.
use Rattle.frame.specs.FrameView.{windows_of}
use Rattle.frame.proofs.FrameCheckingLaws.{Checking}
use Rattle.frame.proofs.check_windows.Given as goal

abbrev pub invariant-loop-k : goal.invariant-loop-k
invariant-loop-k l = Checking (windows_of l.f) l.k l.low
