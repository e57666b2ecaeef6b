-- The call on the sheet and frame that the numbers give.
use Rattle.nolkrada.proofs.nolkrada_board_open.Goals as goal

pub returns : goal.returns
returns c = rw (c.sheet_from-s.ensures, c.frame_from-f.ensures) at c.open_row.ensures
