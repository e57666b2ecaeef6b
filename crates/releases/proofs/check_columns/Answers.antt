-- A column that is long enough is passed; the first that is not decides.
use mathlib.Core.Path.{sym, ◌∙◌}
use native.Mathlib.Omega.{arith}
use Rattle.model.proofs.CheckLaws.{slots_short, slots_next, slots_none}
use Rattle.releases.proofs.check_columns.Goals as goal

pub returns-then-task-count : goal.returns-then-task-count
returns-then-task-count c = slots_short _ _ (omega arith)

pub returns-then-tick-count : goal.returns-then-tick-count
returns-then-tick-count c = sym (slots_next _ _ (omega arith) ∙ sym (slots_short _ _ (omega arith)))

pub returns-then-cost-count : goal.returns-then-cost-count
returns-then-cost-count c = sym (slots_next _ _ (omega arith) ∙ slots_next _ _ (omega arith) ∙ sym (slots_short _ _ (omega arith)))

pub returns : goal.returns
returns c =
    sym
    (slots_next _ _ (omega arith) ∙ slots_next _ _ (omega arith) ∙ slots_next _ _ (omega arith) ∙ sym slots_none)
