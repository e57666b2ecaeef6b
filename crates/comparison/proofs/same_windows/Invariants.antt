-- The loop has passed the windows below k.
use Rattle.model.proofs.SearchLaws.{Sought}
use Rattle.frame.specs.FrameView.{windows_of}
use Rattle.admission.specs.Boards.{window_differs}
use Rattle.comparison.proofs.same_windows.Given as goal

abbrev pub invariant-loop-k : goal.invariant-loop-k
invariant-loop-k l = Sought (window_differs (windows_of l.f) (windows_of l.g)) l.n l.k
