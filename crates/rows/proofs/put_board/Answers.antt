-- The blocks of a board, one after the other.
use Rattle.rows.proofs.RowLaws.{board_put}
use Rattle.rows.proofs.put_board.Goals as goal

pub returns : goal.returns
returns c =
    board_put c.args.b c.args.row.now _ _ _ c.requires.0 c.requires.1
    (c.put_plan.ensures c.args.b.frame) c.put_frame.ensures c.put_last.ensures
