use mathlib.Core.Path.{sym, ◌∙◌}
use native.Mathlib.Omega.{arith}
use Rattle.fileformat.proofs.NumberLaws.{field_eight}
use Rattle.records.proofs.wide_number_at.Goals as goal

pub returns : goal.returns
returns c = sym (field_eight _ _ (omega arith) ∙ omega arith)
