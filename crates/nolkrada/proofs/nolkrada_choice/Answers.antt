-- The columns of the call, and which choice it is as one word; where no word is lent the call is only checked.
use Rattle.choice.specs.Choices.{scope_told}
use Rattle.interface.specs.Interface.{scope_word}
use Rattle.nolkrada.proofs.ChoiceEndLaws.{choice_stopped, choice_no_words, choice_refused, choice_made}
use Rattle.nolkrada.proofs.nolkrada_choice.Goals as goal

pub returns-in-Err : goal.returns-in-Err
returns-in-Err c = choice_stopped _ _ _ _ _ _ _ _ _ _ (rw (c.sheet_from-s.ensures, c.frame_from-f.ensures) at c.in-Err.ensures) c.slots_code.ensures

pub returns-in-Ok : goal.returns-in-Ok
returns-in-Ok c =
    choice_no_words _ _ _ _ _ _ _ _ c.if-answer-lt1.true (rw (c.sheet_from-s.ensures, c.frame_from-f.ensures) at c.in-Ok.ensures) c.short_code.ensures

pub returns-in-Err-choose : goal.returns-in-Err-choose
unfolding scope_told
returns-in-Err-choose c =
    let f = c.sheet_from-s.ensures in
    let g = c.frame_from-f.ensures in
    let told = c.in-Err-choose.ensures in
    choice_refused _ _ _ _ _ _ _ _ _ _ _ _ c.if-answer-lt1.false
    (rw (f, g) at told.result_value) c.refusal_code.ensures (rw (f, g) at told.kept_after) (rw (f, g) at told.worst_after)

pub returns-in-Ok-All : goal.returns-in-Ok-All
unfolding scope_told scope_word
returns-in-Ok-All c =
    let told = rw (c.in-Ok-All.field-0-is, c.sheet_from-s.ensures, c.frame_from-f.ensures) at c.in-Ok-All.ensures.result_value in
    choice_made _ _ _ _ _ _ _ _ _ _ _ _ c.if-answer-lt1.false told
    (rw (c.sheet_from-s.ensures, c.frame_from-f.ensures) at c.in-Ok-All.ensures.kept_after)
    (rw (c.sheet_from-s.ensures, c.frame_from-f.ensures) at c.in-Ok-All.ensures.worst_after)
    c.put_words.ensures

pub returns-in-Ok-HighOnly : goal.returns-in-Ok-HighOnly
unfolding scope_told scope_word
returns-in-Ok-HighOnly c =
    let told = rw (c.in-Ok-HighOnly.field-0-is, c.sheet_from-s.ensures, c.frame_from-f.ensures) at c.in-Ok-HighOnly.ensures.result_value in
    choice_made _ _ _ _ _ _ _ _ _ _ _ _ c.if-answer-lt1.false told
    (rw (c.sheet_from-s.ensures, c.frame_from-f.ensures) at c.in-Ok-HighOnly.ensures.kept_after)
    (rw (c.sheet_from-s.ensures, c.frame_from-f.ensures) at c.in-Ok-HighOnly.ensures.worst_after)
    c.put_words-in-Ok-HighOnly.ensures
