-- The refusal, 13, or the row.
use mathlib.Core.Path.{sym}
use Rattle.model.specs.Tasks.{Valid}
use Rattle.frame.specs.FrameView.{framed_of}
use Rattle.admission.specs.Boards.{open_call}
use Rattle.plan.specs.PlanView.{board_view}
use Rattle.admission.proofs.AcceptedLaws.{planned_valid, opens_well}
use Rattle.rowcalls.proofs.RowEndLaws.{board_refused, board_few, board_written}
use Rattle.rowcalls.proofs.open_row.Goals.{In-Ok}
use Rattle.rowcalls.proofs.open_row.Goals as goal

-- the sheet in force is within its limits
valid : (c : In-Ok) → let g = c.in-Ok.board in Valid (framed_of g.plan.tasks g.frame)
valid c = planned_valid (board_view c.in-Ok.board) (opens_well _ _ (sym c.in-Ok.ensures))

pub returns-in-Err : goal.returns-in-Err
returns-in-Err c =
    let a = c.args in
    board_refused (open_call (framed_of a.s a.f)) _ _ _ _ c.in-Err.ensures c.slots_code.ensures

pub returns-then-row-lt264 : goal.returns-then-row-lt264
returns-then-row-lt264 c =
    let a = c.args in
    board_few (open_call (framed_of a.s a.f)) _ c.in-Ok.board c.in-Ok.ensures _ c.if-row-lt264.true c.short_code.ensures

pub put_board-requires : goal.put_board-requires
put_board-requires c = (c.if-row-lt264.false, valid (goal.at.put_board-requires c).In-Ok)

pub returns-else-row-lt264 : goal.returns-else-row-lt264
returns-else-row-lt264 c =
    let a = c.args in
    board_written (open_call (framed_of a.s a.f)) a.row.now c.in-Ok.board c.in-Ok.ensures _
    c.if-row-lt264.false (valid (goal.at.returns-else-row-lt264 c).In-Ok) c.put_board.ensures
