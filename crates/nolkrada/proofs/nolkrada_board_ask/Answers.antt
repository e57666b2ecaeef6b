-- The call on the sheet, frame and task that the numbers give.
use Rattle.nolkrada.proofs.nolkrada_board_ask.Goals as goal

pub returns : goal.returns
returns c = rw (c.sheet_from-s.ensures, c.frame_from-f.ensures, c.task_at-t.ensures) at c.ask_row.ensures
