-- The two cases.
use mathlib.Core.Path.{ap, ◌∙◌}
use Rattle.frame.specs.FrameView.{frame_of}
use Rattle.rows.proofs.RowLaws.{count_there}
use Rattle.rows.proofs.put_frame.Goals as goal

pub put_some-requires : goal.put_some-requires
put_some-requires c = (c.requires.0, count_there _ (λ g e. c.requires.1 g (ap frame_of c.in-Some.is ∙ e)))

pub returns-in-None : goal.returns-in-None
returns-in-None c = rw c.in-None.is c.put_none.ensures

pub returns-in-Some : goal.returns-in-Some
returns-in-Some c = rw c.in-Some.is c.put_some.ensures
