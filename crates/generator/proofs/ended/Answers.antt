-- Position 0 is that of the trace; another counts on.
use mathlib.Core.Path.{sym}
use native.Mathlib.Omega.{arith}
use Rattle.generator.proofs.LeftLaws.{left_none, left_some}
use Rattle.generator.proofs.ended.Goals as goal

pub returns-then-position-eq0 : goal.returns-then-position-eq0
returns-then-position-eq0 c = sym (left_none 1 _ (omega arith))

pub returns : goal.returns
returns c = sym (left_some 1 _ (omega arith))
