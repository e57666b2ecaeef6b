-- Whether there are frames, then what they are.
use mathlib.Core.Path.{ap}
use Rattle.frame.specs.FrameView.{frame_of}
use Rattle.comparison.proofs.SheetTestLaws.{one_alone, none_and}
use Rattle.comparison.proofs.same_frame.Goals as goal

pub returns-in-None : goal.returns-in-None
returns-in-None c = rw c.in-None.is (none_and _ _ c.is_none.ensures)

pub returns-in-None-g : goal.returns-in-None-g
returns-in-None-g c = rw (c.in-Some.is, c.in-None-g.is) (one_alone _)

pub same_ticks-requires : goal.same_ticks-requires
same_ticks-requires c = (c.requires _ (ap frame_of c.in-Some.is)).count_high
