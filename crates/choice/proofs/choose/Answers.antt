-- Every check comes before the columns are written.
use mathlib.Core.Path.{◌≡◌, sym}
use mathlib.Core.Option.{none}
use native.Mathlib.Omega.{arith}
use lib.ListN.{length}
use Rattle.model.specs.Tasks.{Valid}
use Rattle.model.specs.Checks.{refusal_of}
use Rattle.model.proofs.CheckLaws.{valid_of}
use Rattle.model.proofs.OrderLaws.{accepted_of}
use Rattle.refusal.proofs.PassedOn.{passed_answer}
use Rattle.frame.specs.FrameView.{framed_of}
use Rattle.choice.specs.Choices.{extent_in, room_inputs, scope_told}
use Rattle.choice.proofs.ChoiceCallLaws.{room_long, refuses_room, refuses_unfit, answers}
use Rattle.choice.proofs.choose.Goals.{In_ok-check_room}
use Rattle.choice.proofs.choose.Goals as goal

-- every check before the choice passes
fine : (c : In_ok-check_room)
    → let a = c.args in
    none ≡ refusal_of (room_inputs (framed_of a.s a.f) (length a.kept.now) (length a.worst.now))
fine c = c.in_ok-check_room.ensures

-- so the sheet is within its limits
valid : (c : In_ok-check_room) → let a = c.args in Valid (framed_of a.s a.f)
valid c = valid_of _ (sym (accepted_of _ (fine c)).tasks)

pub returns-in_err-check_room : goal.returns-in_err-check_room
unfolding scope_told
returns-in_err-check_room c =
    let a = c.args in
    let r = refuses_room _ a.kept.now a.worst.now _ c.in_err-check_room.ensures in
    record { result_value = passed_answer extent_in _ _ c.from_residual.ensures.1 r.0; kept_after = r.1.0; worst_after = r.1.1 }

pub decide-decided-requires : goal.decide-decided-requires
decide-decided-requires c = valid (goal.at.decide-decided-requires c).In_ok-check_room

pub returns-then-fitted-count : goal.returns-then-fitted-count
unfolding scope_told
returns-then-fitted-count c =
    let a = c.args in
    let r = refuses_unfit _ a.kept.now a.worst.now (fine (goal.at.returns-then-fitted-count c).In_ok-check_room) _ c.decide-decided.ensures c.if-fitted-count.true in
    record { result_value = r.0; kept_after = r.1.0; worst_after = r.1.1 }

pub put-requires : goal.put-requires
put-requires c =
    let few = (valid (goal.at.put-requires c).In_ok-check_room).few_tasks in
    (omega (arith, few, c.decide-decided.ensures.choices.keep_long), (room_long _ _ _ (fine (goal.at.put-requires c).In_ok-check_room)).0)

pub put-requires-2 : goal.put-requires-2
put-requires-2 c =
    let few = (valid (goal.at.put-requires-2 c).In_ok-check_room).few_tasks in
    (omega (arith, few, c.decide-decided.ensures.choices.worst_long), (room_long _ _ _ (fine (goal.at.put-requires-2 c).In_ok-check_room)).1)

pub returns : goal.returns
unfolding scope_told
returns c =
    let a = c.args in
    let r =
    answers _ a.kept.now a.worst.now (fine (goal.at.returns c).In_ok-check_room) _ c.decide-decided.ensures _ _ c.if-fitted-count.false
    (valid (goal.at.returns c).In_ok-check_room).few_tasks c.put.ensures c.put-2.ensures in
    record { result_value = r.0; kept_after = r.1.0; worst_after = r.1.1 }
