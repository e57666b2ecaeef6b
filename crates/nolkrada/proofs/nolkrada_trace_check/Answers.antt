-- The answer of the call goes to the first words, where they are enough.
use Rattle.interface.proofs.InterfaceLaws.{ends_refused, ends_answered}
use Rattle.interface.specs.Interface.{trace_words}
use Rattle.nolkrada.proofs.nolkrada_trace_check.Goals as goal

pub returns-in-Err : goal.returns-in-Err
returns-in-Err c = ends_refused _ _ _ _ _ _ _ (rw c.sheet_from-s.ensures at c.in-Err.ensures) c.slots_code.ensures

pub returns-in-Ok-None : goal.returns-in-Ok-None
unfolding trace_words
returns-in-Ok-None c =
    ends_answered 2 trace_words _ c.args.answer.now _ _ _
    (rw (c.in-Ok-None.field-0-is, c.sheet_from-s.ensures) at c.in-Ok-None.ensures) c.put_words.ensures

pub returns-in-Ok-Some : goal.returns-in-Ok-Some
unfolding trace_words
returns-in-Ok-Some c =
    ends_answered 2 trace_words _ c.args.answer.now _ _ _
    (rw (c.in-Ok-Some.field-0-is, c.sheet_from-s.ensures) at c.in-Ok-Some.ensures) c.put_words-in-Ok-Some.ensures
