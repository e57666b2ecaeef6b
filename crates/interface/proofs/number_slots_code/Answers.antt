-- The refusal stays, but where slots are too few and it comes after them.
use mathlib.Core.Path.{sym, ap, ◌∙◌}
use mathlib.Core.Option.{some}
use Rattle.model.specs.Refusal.{Refusal}
use Rattle.interface.proofs.InterfaceLaws.{kept_enough, kept_before, few_before}
use Rattle.interface.specs.Interface.{code_of}
use Rattle.interface.proofs.number_slots_code.Goals as goal

pub returns-then-needed-slots : goal.returns-then-needed-slots
unfolding code_of
returns-then-needed-slots c = c.number_code.ensures ∙ sym (ap (λ (q : Refusal). code_of (some q)) (kept_enough _ _ _ c.if-needed-slots.true))

pub returns-then-after_slots : goal.returns-then-after_slots
unfolding code_of
returns-then-after_slots c =
    c.short_code.ensures
    ∙ sym (ap (λ (q : Refusal). code_of (some q))
    (few_before _ _ _ c.if-needed-slots.false (sym c.after_slots.ensures ∙ c.if-after_slots.true)))

pub returns : goal.returns
unfolding code_of
returns c =
    c.number_code-2.ensures
    ∙ sym (ap (λ (q : Refusal). code_of (some q))
    (kept_before _ _ _ c.if-needed-slots.false (sym c.after_slots.ensures ∙ c.if-after_slots.false)))
