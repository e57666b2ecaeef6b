-- What is wrong with the text, then the slices in order, else the sheet and its count.
use mathlib.Core.Path.{◌≡◌}
use Rattle.model.specs.Refusal.{answered}
use Rattle.fileformat.specs.FileCalls.{tasks_in, set_of}
use Rattle.textformat.specs.TextSheet.{load}
use Rattle.loader.proofs.LoadLaws.{said_refused, said_tasks, said_sheet}
use Rattle.nolkrada.proofs.LoadEndLaws.{load_refused, load_no_sheet, load_no_word, load_answered}
use Rattle.nolkrada.proofs.nolkrada_load.Goals.{In-Ok}
use Rattle.nolkrada.proofs.nolkrada_load.Goals as goal

-- nothing is wrong with the text
answers : (c : In-Ok) → load c.args.text.now ≡ answered (tasks_in c.in-Ok.tasks)
answers c = said_tasks _ _ c.load.ensures _ c.in-Ok.is

-- and the sheet is that of its tasks
sheet_of_lem : (c : In-Ok) → c.in-Ok.tasks ≡ set_of (tasks_in c.in-Ok.tasks)
sheet_of_lem c = said_sheet _ _ c.load.ensures _ c.in-Ok.is

pub returns-in-Err : goal.returns-in-Err
returns-in-Err c = load_refused _ _ _ _ _ _ (said_refused _ _ c.load.ensures _ c.in-Err.is) c.refusal_code.ensures

pub returns-then-slots-lt160 : goal.returns-then-slots-lt160
returns-then-slots-lt160 c = load_no_sheet _ _ _ _ _ (answers (goal.at.returns-then-slots-lt160 c).In-Ok) c.if-slots-lt160.true c.short_code.ensures

pub returns-then-answer-lt1 : goal.returns-then-answer-lt1
returns-then-answer-lt1 c = load_no_word _ _ _ _ _ (answers (goal.at.returns-then-answer-lt1 c).In-Ok) c.if-slots-lt160.false c.if-answer-lt1.true c.short_code-then-answer-lt1.ensures

pub returns-else-answer-lt1 : goal.returns-else-answer-lt1
returns-else-answer-lt1 c =
    load_answered _ _ _ _ _ _ _ _
    (answers (goal.at.returns-else-answer-lt1 c).In-Ok)
    (sheet_of_lem (goal.at.returns-else-answer-lt1 c).In-Ok)
    c.if-slots-lt160.false
    c.if-answer-lt1.false
    c.put_sheet.ensures
    c.put_words.ensures
