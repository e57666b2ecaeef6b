use native.Mathlib.Omega.{arith}
use Rattle.model.proofs.CheckLaws.{count_many, count_few}
use Rattle.releases.proofs.check_count.Goals as goal

pub returns-then-count-gt1024 : goal.returns-then-count-gt1024
returns-then-count-gt1024 c = count_many _ (omega arith)

pub returns : goal.returns
returns c = count_few _ (omega arith)
