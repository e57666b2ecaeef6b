use Rattle.std.proofs.Common.{rules}
use Rattle.loader.specs.Loader.{decided}
use Rattle.loader.proofs.is_decided.Goals as goal

pub returns : goal.returns
unfolding decided
returns c = search rules
