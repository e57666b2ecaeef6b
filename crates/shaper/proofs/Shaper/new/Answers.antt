-- `Shaper::new` gives the state of the empty history.
use mathlib.Core.Path.{refl}
use Rattle.shaper.specs.Shaper.{latest, due}
use Rattle.shaper.proofs.Shaper.new.Goals as goal

pub returns : goal.returns
unfolding latest due
returns c = refl
