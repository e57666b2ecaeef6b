-- The call on the sheet that the numbers give.
use Rattle.nolkrada.proofs.nolkrada_small_trace.Goals as goal

pub returns : goal.returns
returns c = rw c.sheet_from-s.ensures at c.trace_words.ensures
