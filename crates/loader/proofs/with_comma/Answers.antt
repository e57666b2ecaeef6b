use mathlib.Core.Path.{refl}
use Rattle.loader.specs.Loader.{with_comma}
use Rattle.loader.proofs.with_comma.Goals as goal

pub returns : goal.returns
unfolding with_comma
returns c = refl
