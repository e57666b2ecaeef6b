-- The bytes of the call, and its answer as one word; where no word is lent the call is only checked.
use Rattle.nolkrada.proofs.WriteEndLaws.{write_stopped, write_no_words, write_refused, write_written}
use Rattle.nolkrada.proofs.nolkrada_write.Goals as goal

pub returns-in-Err : goal.returns-in-Err
returns-in-Err c = write_stopped _ _ _ _ _ _ _ _ _ _ _ _ (rw c.sheet_from-s.ensures at c.in-Err.ensures) c.slots_code.ensures

pub returns-in-Ok : goal.returns-in-Ok
returns-in-Ok c = write_no_words _ _ _ _ _ _ _ _ _ _ c.if-answer-lt1.true (rw c.sheet_from-s.ensures at c.in-Ok.ensures) c.short_code.ensures

pub returns-in-Err-write : goal.returns-in-Err-write
returns-in-Err-write c =
    let told = rw c.sheet_from-s.ensures at c.in-Err-write.ensures in
    write_refused _ _ _ _ _ _ _ _ _ _ _ _ _ c.if-answer-lt1.false told.answer c.refusal_code.ensures told.bytes

pub returns-in-Ok-write : goal.returns-in-Ok-write
returns-in-Ok-write c =
    let told = rw c.sheet_from-s.ensures at c.in-Ok-write.ensures in
    write_written _ _ _ _ _ _ _ _ _ _ _ _ _ c.if-answer-lt1.false told.answer told.bytes c.put_words.ensures
