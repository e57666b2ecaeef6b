-- The checks of the sheet and its frame, then the slots of both columns.
use mathlib.Core.Path.{◌≡◌}
use mathlib.Core.Option.{none}
use native.Mathlib.Omega.{arith}
use Rattle.model.specs.Checks.{check_tasks}
use Rattle.refusal.proofs.PassedOn.{passed_on}
use Rattle.frame.specs.FrameView.{framed_of}
use Rattle.choice.proofs.ChoiceCallLaws.{room_sheet, room_kept, room_worst, room_enough}
use Rattle.choice.proofs.check_room.Goals.{In_ok-check_sheet}
use Rattle.choice.proofs.check_room.Goals as goal

-- the sheet passes its checks
fine : (c : In_ok-check_sheet) → none ≡ check_tasks (framed_of c.args.s c.args.f)
fine c = c.in_ok-check_sheet.ensures

pub returns-in_err-check_sheet : goal.returns-in_err-check_sheet
returns-in_err-check_sheet c = passed_on _ _ c.from_residual.ensures.1 (room_sheet _ _ _ _ c.in_err-check_sheet.ensures)

pub returns-then-kept-count : goal.returns-then-kept-count
returns-then-kept-count c = room_kept _ _ _ (fine (goal.at.returns-then-kept-count c).In_ok-check_sheet) (omega arith)

pub returns-then-worst-count : goal.returns-then-worst-count
returns-then-worst-count c = room_worst _ _ _ (fine (goal.at.returns-then-worst-count c).In_ok-check_sheet) (omega arith) (omega arith)

pub returns : goal.returns
returns c = room_enough _ _ _ (fine (goal.at.returns c).In_ok-check_sheet) (omega arith) (omega arith)
