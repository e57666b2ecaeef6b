-- Each way out is a refusal that changes nothing, or an answer of the call.
use Rattle.nolkrada.proofs.ReadLaws.{sheet_halts, answer_halts}
use Rattle.nolkrada.specs.Files.{read_answer}
use Rattle.nolkrada.proofs.ReadEndLaws.{read_halted, read_refused, read_answered}
use Rattle.nolkrada.proofs.nolkrada_read.Goals as goal

pub returns-then-sheet-lt160 : goal.returns-then-sheet-lt160
unfolding read_answer
returns-then-sheet-lt160 c = read_halted _ _ _ _ _ _ _ (sheet_halts _ _ _ _ _ _ c.if-sheet-lt160.true) c.read_code.ensures

pub returns-then-answer-lt3 : goal.returns-then-answer-lt3
unfolding read_answer
returns-then-answer-lt3 c = read_halted _ _ _ _ _ _ _ (answer_halts _ _ _ _ _ _ c.if-answer-lt3.true) c.read_code-then-answer-lt3.ensures

pub returns-in-Err : goal.returns-in-Err
returns-in-Err c =
    let told = c.in-Err.ensures in
    read_refused _ _ _ _ _ _ _ _ _ _ _ _ c.if-answer-lt3.false c.if-sheet-lt160.false told.outcome c.refusal_code.ensures told.task_column told.tick_column told.cost_column

pub returns-in-Ok : goal.returns-in-Ok
returns-in-Ok c =
    let told = c.in-Ok.ensures in
    read_answered _ _ _ _ _ _ _ _ _ _ _ _ _ _ c.if-answer-lt3.false c.if-sheet-lt160.false told.outcome told.sheet c.put_sheet.ensures
    (rw c.from.ensures at c.put_words.ensures)
    told.task_column told.tick_column told.cost_column
