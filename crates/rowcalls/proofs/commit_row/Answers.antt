-- The refusal, 13, or the row.
use mathlib.Core.Path.{◌≡◌, sym}
use Rattle.model.specs.Tasks.{Valid}
use Rattle.model.specs.Refusal.{answered}
use Rattle.frame.specs.FrameView.{framed_of}
use Rattle.admission.specs.Offers.{answer_by}
use Rattle.admission.specs.Boards.{commit_call}
use Rattle.admission.proofs.AcceptedLaws.{planned_valid, next_well}
use Rattle.plan.specs.PlanView.{board_view}
use Rattle.board.specs.BoardCalls.{commit_of}
use Rattle.rows.specs.Rows.{board_from}
use Rattle.rowcalls.proofs.RowEndLaws.{board_refused, board_few, board_written}
use Rattle.rowcalls.proofs.commit_row.Goals.{In-Ok}
use Rattle.rowcalls.proofs.commit_row.Goals as goal

-- the answer, of the board that the row holds
answer
    : (c : In-Ok)
    → let a = c.args in
    answered (board_view c.commit.new.b)
    ≡ commit_call (board_view (board_from a.row.now)) (commit_of a.o a.s a.f a.list.now.count a.list.now.task.now a.list.now.tick.now a.list.now.cost.now a.at)
unfolding answer_by
answer c = rw c.board_from-b.ensures at c.in-Ok.ensures.answer

-- the new sheet is within its limits
valid : (c : In-Ok) → let g = c.commit.new.b in Valid (framed_of g.plan.tasks g.frame)
valid c = planned_valid (board_view c.commit.new.b) (next_well _ _ _ (sym (answer c)))

pub returns-in-Err : goal.returns-in-Err
unfolding answer_by
returns-in-Err c =
    let a = c.args in
    board_refused (commit_call (board_view (board_from a.row.now)) (commit_of a.o a.s a.f a.list.now.count a.list.now.task.now a.list.now.tick.now a.list.now.cost.now a.at))
    _ _ _ _ (rw c.board_from-b.ensures at c.in-Err.ensures.answer) c.slots_code.ensures

pub returns-then-row-lt264 : goal.returns-then-row-lt264
returns-then-row-lt264 c =
    let a = c.args in
    board_few (commit_call (board_view (board_from a.row.now)) (commit_of a.o a.s a.f a.list.now.count a.list.now.task.now a.list.now.tick.now a.list.now.cost.now a.at)) _
    c.commit.new.b (answer (goal.at.returns-then-row-lt264 c).In-Ok) _ c.if-row-lt264.true c.short_code.ensures

pub put_board-requires : goal.put_board-requires
put_board-requires c = (c.if-row-lt264.false, valid (goal.at.put_board-requires c).In-Ok)

pub returns-else-row-lt264 : goal.returns-else-row-lt264
returns-else-row-lt264 c =
    let a = c.args in
    board_written (commit_call (board_view (board_from a.row.now)) (commit_of a.o a.s a.f a.list.now.count a.list.now.task.now a.list.now.tick.now a.list.now.cost.now a.at))
    a.row.now c.commit.new.b (answer (goal.at.returns-else-row-lt264 c).In-Ok) _ c.if-row-lt264.false (valid (goal.at.returns-else-row-lt264 c).In-Ok)
    c.put_board.ensures
