-- What is wrong with the file, then the slices in order.
use Rattle.model.proofs.CheckLaws.{slots_short, slots_next, slots_none}
use mathlib.Core.Path.{refl, sym, ◌∙◌}
use Rattle.interface.specs.Interface.{code_of}
use Rattle.nolkrada.proofs.ReadLaws.{code_refused, code_slots}
use Rattle.nolkrada.proofs.read_code.Goals as goal

pub returns-then-sheet-lt160 : goal.returns-then-sheet-lt160
unfolding code_of
returns-then-sheet-lt160 c =
    code_slots _ _ _ _ _ _ _ _ _
    c.in-Ok.ensures
    (slots_short _ _ c.if-sheet-lt160.true)
    c.short_code.ensures

pub returns-then-task-releases : goal.returns-then-task-releases
unfolding code_of
returns-then-task-releases c =
    code_slots _ _ _ _ _ _ _ _ _
    c.in-Ok.ensures
    (slots_short _ _ c.if-task-releases.true ∙ sym (slots_next _ _ c.if-sheet-lt160.false))
    c.short_code-then-task-releases.ensures

pub returns-then-tick-releases : goal.returns-then-tick-releases
unfolding code_of
returns-then-tick-releases c =
    code_slots _ _ _ _ _ _ _ _ _
    c.in-Ok.ensures
    (slots_short _ _ c.if-tick-releases.true ∙ sym (slots_next _ _ c.if-task-releases.false) ∙ sym (slots_next _ _ c.if-sheet-lt160.false))
    c.short_code-then-tick-releases.ensures

pub returns-then-cost-releases : goal.returns-then-cost-releases
unfolding code_of
returns-then-cost-releases c =
    code_slots _ _ _ _ _ _ _ _ _
    c.in-Ok.ensures
    (slots_short _ _ c.if-cost-releases.true ∙ sym (slots_next _ _ c.if-tick-releases.false) ∙ sym (slots_next _ _ c.if-task-releases.false) ∙ sym
    (slots_next _ _ c.if-sheet-lt160.false))
    c.short_code-then-cost-releases.ensures

pub returns-then-answer-lt3 : goal.returns-then-answer-lt3
unfolding code_of
returns-then-answer-lt3 c =
    code_slots _ _ _ _ _ _ _ _ _
    c.in-Ok.ensures
    (slots_short _ _ c.if-answer-lt3.true ∙ sym (slots_next _ _ c.if-cost-releases.false) ∙ sym (slots_next _ _ c.if-tick-releases.false) ∙ sym
    (slots_next _ _ c.if-task-releases.false) ∙ sym (slots_next _ _ c.if-sheet-lt160.false))
    c.short_code-then-answer-lt3.ensures

pub returns-in-Err : goal.returns-in-Err
returns-in-Err c =
    code_refused _ _ _ _ _ _ _ _ _
    c.in-Err.ensures
    c.refusal_code.ensures

pub returns-else-answer-lt3 : goal.returns-else-answer-lt3
unfolding code_of
returns-else-answer-lt3 c =
    code_slots _ _ _ _ _ _ _ _ _
    c.in-Ok.ensures
    (slots_none ∙ sym (slots_next _ _ c.if-answer-lt3.false) ∙ sym (slots_next _ _ c.if-cost-releases.false) ∙ sym (slots_next _ _ c.if-tick-releases.false) ∙ sym
    (slots_next _ _ c.if-task-releases.false) ∙ sym (slots_next _ _ c.if-sheet-lt160.false))
    refl
