-- The answer of the call goes to the first words, where they are enough.
use Rattle.interface.proofs.InterfaceLaws.{ends_refused, ends_answered}
use Rattle.interface.specs.Interface.{verdict_words}
use Rattle.nolkrada.proofs.nolkrada_verdict.Goals as goal

pub returns-in-Err : goal.returns-in-Err
returns-in-Err c =
    ends_refused _ _ _ _ _ _ _ (rw (c.sheet_from-s.ensures, c.frame_from-f.ensures) at c.in-Err.ensures) c.slots_code.ensures

pub returns-in-Ok-Horizon : goal.returns-in-Ok-Horizon
unfolding verdict_words
returns-in-Ok-Horizon c =
    ends_answered 4 verdict_words _ c.args.answer.now _ _ _
    (rw (c.in-Ok-Horizon.field-0-is, c.sheet_from-s.ensures, c.frame_from-f.ensures) at c.in-Ok-Horizon.ensures)
    (rw c.from.ensures at c.put_words.ensures)

pub returns-in-Ok-Late : goal.returns-in-Ok-Late
unfolding verdict_words
returns-in-Ok-Late c =
    ends_answered 4 verdict_words _ c.args.answer.now _ _ _
    (rw (c.in-Ok-Late.field-0-is, c.sheet_from-s.ensures, c.frame_from-f.ensures) at c.in-Ok-Late.ensures)
    (rw (c.from-in-Ok-Late.ensures, c.from-in-Ok-Late-2.ensures) at c.put_words-in-Ok-Late.ensures)

pub returns-in-Ok-Fits : goal.returns-in-Ok-Fits
unfolding verdict_words
returns-in-Ok-Fits c =
    ends_answered 4 verdict_words _ c.args.answer.now _ _ _
    (rw (c.in-Ok-Fits.field-0-is, c.sheet_from-s.ensures, c.frame_from-f.ensures) at c.in-Ok-Fits.ensures)
    (rw (c.from-in-Ok-Fits.ensures, c.from-in-Ok-Fits-2.ensures) at c.put_words-in-Ok-Fits.ensures)
