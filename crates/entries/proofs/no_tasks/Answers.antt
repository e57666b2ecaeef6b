use mathlib.Core.Path.{refl}
use Rattle.fileformat.specs.FileCalls.{set_with}
use Rattle.entries.proofs.no_tasks.Goals as goal

pub returns : goal.returns
unfolding set_with
returns c = refl
