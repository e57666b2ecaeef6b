use Rattle.loader.specs.Loader.{with_digit}
use Rattle.loader.proofs.with_digit.Goals as goal

pub returns : goal.returns
unfolding with_digit
returns c = rw c.more.ensures
