-- A frame is copied; without one there are no windows.
use mathlib.Core.Path.{ap}
use Rattle.frame.specs.FrameView.{frame_of}
use Rattle.frame.proofs.ColumnLaws.{nothing_prepared}
use Rattle.frame.proofs.supply_of.Goals as goal

pub columns_of-requires : goal.columns_of-requires
columns_of-requires c = c.requires _ (ap frame_of c.in-Some.is)

pub returns-in-None : goal.returns-in-None
returns-in-None c = rw c.in-None.is nothing_prepared
