-- Two numbers make a window.
use Rattle.frame.specs.FrameView.{window_at}
use Rattle.frame.proofs.window_at.Goals as goal

pub returns : goal.returns
unfolding window_at
returns c = cc
