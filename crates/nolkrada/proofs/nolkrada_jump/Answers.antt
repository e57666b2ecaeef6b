-- The columns of the call, and its answer as one word; where no word is lent the call is only checked.
use mathlib.Core.Path.{◌≡◌, sym, ap, ◌∙◌}
use Rattle.model.specs.Checks.{refusal_of}
use Rattle.model.specs.Calls.{run_inputs}
use Rattle.refusal.specs.Refusal.{refusal_in}
use Rattle.trace.proofs.ListCallLaws.{run_checks}
use Rattle.interface.specs.Interface.{framed_from}
use Rattle.nolkrada.proofs.JumpEndLaws.{jump_stopped, jump_no_words, jump_refused, jump_ran}
use Rattle.nolkrada.proofs.nolkrada_jump.Goals.{After-check_two}
use Rattle.nolkrada.proofs.nolkrada_jump.Goals as goal

-- what the checks found, as the checks of a run of the sheet passed as numbers
checks : (c : After-check_two)
    → let a = c.args in
    refusal_in c.check_two.result
    ≡ refusal_of
    (run_inputs (framed_from a.sheet.now a.count a.charge a.frame.now) a.kept.now a.n a.task.now a.tick.now a.cost.now a.ready.now a.finish.now)
checks c =
    let a = c.args in
    (rw (c.sheet_from-s.ensures, c.frame_from-f.ensures) at c.check_two.ensures)
    ∙ run_checks (framed_from a.sheet.now a.count a.charge a.frame.now) a.kept.now a.n a.task.now a.tick.now a.cost.now a.ready.now a.finish.now

pub returns-in-Err : goal.returns-in-Err
returns-in-Err c =
    jump_stopped _ _ _ _ _ _ _ _ _ _ _ _ _ _ _ (sym (ap refusal_in c.in-Err.is) ∙ checks (goal.at.returns-in-Err c).After-check_two) c.slots_code.ensures

pub returns-in-Ok : goal.returns-in-Ok
returns-in-Ok c =
    jump_no_words _ _ _ _ _ _ _ _ _ _ _ _ _ c.if-answer-lt1.true (sym (ap refusal_in c.in-Ok.is) ∙ checks (goal.at.returns-in-Ok c).After-check_two)
    c.short_code.ensures

pub returns-in-Err-run : goal.returns-in-Err-run
returns-in-Err-run c =
    let f = c.sheet_from-s.ensures in
    let g = c.frame_from-f.ensures in
    let told = c.in-Err-run.ensures in
    jump_refused _ _ _ _ _ _ _ _ _ _ _ _ _ _ _ _ _ c.if-answer-lt1.false
    (rw (f, g) at told.answer) c.refusal_code.ensures (rw (f, g) at told.ticks) (rw (f, g) at told.finishes)

pub returns-in-Ok-run : goal.returns-in-Ok-run
returns-in-Ok-run c =
    let f = c.sheet_from-s.ensures in
    let g = c.frame_from-f.ensures in
    let told = c.in-Ok-run.ensures in
    jump_ran _ _ _ _ _ _ _ _ _ _ _ _ _ _ _ _ _ c.if-answer-lt1.false
    (rw (f, g) at told.answer) (rw (f, g) at told.ticks) (rw (f, g) at told.finishes) (rw c.from.ensures at c.put_words.ensures)
