use mathlib.Core.Path.{sym, ◌∙◌}
use native.Mathlib.Omega.{arith}
use Rattle.fileformat.proofs.NumberLaws.{field_four}
use Rattle.records.proofs.number_at.Goals as goal

pub returns : goal.returns
returns c = sym (field_four _ _ (omega arith) ∙ omega arith)
