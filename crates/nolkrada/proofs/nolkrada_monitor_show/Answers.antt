-- The answer of the call goes to the first words, where they are enough.
use Rattle.interface.proofs.InterfaceLaws.{ends_refused, ends_answered}
use Rattle.interface.specs.Interface.{shown_words}
use Rattle.nolkrada.proofs.nolkrada_monitor_show.Goals as goal

pub returns-in-Err : goal.returns-in-Err
returns-in-Err c = ends_refused _ _ _ _ _ _ _ c.in-Err.ensures c.slots_code.ensures

pub returns-in-Ok : goal.returns-in-Ok
unfolding shown_words
returns-in-Ok c =
    ends_answered 3 shown_words _ c.args.answer.now _ _ _ c.in-Ok.ensures (rw (c.from.ensures, c.from-in-Ok.ensures) at c.put_words.ensures)
