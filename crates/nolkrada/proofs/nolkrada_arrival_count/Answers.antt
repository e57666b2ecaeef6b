-- The answer of the call goes to the first words, where they are enough.
use Rattle.interface.specs.Interface.{one_word}
use Rattle.interface.proofs.InterfaceLaws.{ends_refused, ends_answered}
use Rattle.nolkrada.proofs.nolkrada_arrival_count.Goals as goal

pub returns-in-Err : goal.returns-in-Err
returns-in-Err c = ends_refused _ _ _ _ _ _ _ (rw c.sheet_from-s.ensures at c.in-Err.ensures) c.slots_code.ensures

pub returns-in-Ok : goal.returns-in-Ok
returns-in-Ok c =
    ends_answered _ one_word _ c.args.answer.now _ _ _ (rw c.sheet_from-s.ensures at c.in-Ok.ensures) c.put_words.ensures
