-- What a text answers: the tasks of its lines, or number and place; and the text of some tasks.
use Rattle.std.specs.Prelude.{ℕ, Bool, true, false, ◌&&◌, List, [], ◌∷◌, ◌++◌, eqb, length, get_or}
use Rattle.std.proofs.Math.Option.{Option, some, none}
use Rattle.model.specs.Refusal.{Answer, refused, answered}
use Rattle.taskset.specs.declared.Task.{Task}
use Rattle.taskset.specs.declared.TaskSet.{TaskSet}
use Rattle.fileformat.specs.File.{task_fault, end_fault}
use Rattle.fileformat.specs.FileCalls.{set_of}
use Rattle.text.specs.Text.{line_feed, field}
use Rattle.textformat.specs.Numerals.{is_numeral, value}
use Rattle.textformat.specs.Lines.{comma, Line, lines_of, fields_of}

-- every field is a number
unfoldable pub all_numerals : List (List ℕ) → Bool
all_numerals [] = true
all_numerals (f ∷ l) = is_numeral f && all_numerals l

-- "P,J,E,D": four numbers
unfoldable pub is_four : List (List ℕ) → Bool
is_four fields = eqb (length fields) 4 && all_numerals fields

-- a line of that form, ended by a line feed
unfoldable pub has_form : Line → Bool
has_form x = x.ended && is_four (fields_of x.bytes)

-- the task of four fields; it is high
unfoldable pub task_of : List (List ℕ) → Task
task_of fields = record {
  period = value (get_or fields 0 []);
  jitter = value (get_or fields 1 []);
  cost = value (get_or fields 2 []);
  deadline = value (get_or fields 3 []);
  low = false;
}

-- the task of a line
unfoldable pub task_in : Line → Task
task_in x = task_of (fields_of x.bytes)

-- what is wrong with line n: 16, another form, "before 4 and 6 on that line"; then 4 and 6 as for a kind 1 record after n tasks, without a charge
unfoldable pub line_fault : ℕ → Line → Option ℕ
line_fault n x = elim (has_form x) [ false ↦ some 16 | true ↦ task_fault 0 n 0 (task_in x) ]

-- the lines after those that gave the tasks ts, one each, so that the next line's number, from 0, is their count. The earliest line decides; after the
-- last one, 5 where there is none
unfoldable pub load_from : List Task → List Line → Answer (List Task)
load_from ts [] = elim (end_fault (length ts)) [ some k ↦ refused (record { number = k; place = length ts }) | none ↦ answered ts ]
load_from ts (x ∷ l) =
    elim (line_fault (length ts) x) [
      | some k ↦ refused (record { number = k; place = length ts })
      | none ↦ load_from (ts ++ (task_in x ∷ [])) l
    ]

-- a whole text
unfoldable pub load : List ℕ → Answer (List Task)
load text = load_from [] (lines_of text)

-- the sheet of an answer, which has no charge: entries past the count are 0; of a refusal, after which none is returned, the sheet of no task
unfoldable pub load_sheet : Answer (List Task) → TaskSet
load_sheet (refused q) = set_of []
load_sheet (answered ts) = set_of ts

-- the line of a task: P,J,E,D in decimal and a line feed
unfoldable pub line_text : Task → List ℕ
line_text t = field t.period comma ++ (field t.jitter comma ++ (field t.cost comma ++ field t.deadline line_feed))

-- the text of some tasks
unfoldable pub text_of : List Task → List ℕ
text_of [] = []
text_of (t ∷ l) = line_text t ++ text_of l
