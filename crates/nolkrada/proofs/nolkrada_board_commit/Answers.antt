-- The call on the offer, sheet and frame that the numbers give.
use Rattle.nolkrada.proofs.nolkrada_board_commit.Goals as goal

pub returns : goal.returns
returns c = rw (c.plan_from-o.ensures, c.sheet_from-s.ensures, c.frame_from-f.ensures) at c.commit_row.ensures
