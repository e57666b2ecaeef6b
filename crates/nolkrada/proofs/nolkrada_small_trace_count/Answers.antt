-- The call on the sheet that the numbers give.
use Rattle.nolkrada.proofs.nolkrada_small_trace_count.Goals as goal

pub returns : goal.returns
returns c = rw c.sheet_from-s.ensures at c.count_words.ensures
