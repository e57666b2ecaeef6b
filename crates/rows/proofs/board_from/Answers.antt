-- The parts of a board.
use Rattle.rows.proofs.FillLaws.{board_made}
use Rattle.rows.proofs.board_from.Goals as goal

pub returns : goal.returns
returns c =
    board_made c.args.row.now _ _ _ _ _ _
    c.plan_from-plan.ensures c.frame_in-frame.ensures
    c.number_at-low.ensures c.number_at-high.ensures c.from.ensures c.from-2.ensures
