-- The loader: one pass over a text with a small state, byte by byte.
use Rattle.std.specs.Prelude.{ℕ, Result, Ok, Err, ◌+◌, ◌*◌, ◌-◌, min, ◌≡◌, Bool, true, false, ◌&&◌, ◌||◌, List, [], ◌∷◌, ltb, eqb, set}
use Rattle.std.proofs.Math.Option.{some, none}
use Rattle.model.specs.Refusal.{Answer}
use Rattle.refusal.specs.declared.Refusal.{Refusal}
use Rattle.refusal.specs.Refusal.{reason_of, answer_in}
use Rattle.taskset.specs.declared.Task.{Task}
use Rattle.taskset.specs.declared.TaskSet.{TaskSet}
use Rattle.fileformat.specs.File.{task_fault, end_fault}
use Rattle.fileformat.specs.FileCalls.{tasks_in, set_of}
use Rattle.text.specs.Text.{line_feed}
use Rattle.textformat.specs.Numerals.{is_digit}
use Rattle.textformat.specs.Lines.{comma}
use Rattle.textformat.specs.TextSheet.{load, load_sheet}
use Rattle.loader.specs.declared.LineSoFar.{LineSoFar}
use Rattle.loader.specs.declared.Taken.{Taken}
use Rattle.loader.specs.declared.Taken.TheVariants.{Goes, Ends, Broken}
use Rattle.loader.specs.declared.Loader.{Loader}

-- a number over every limit; a larger one counts as this
abbrev pub cap : ℕ
cap = 1000001

-- nothing of a line
abbrev pub no_line : LineSoFar
no_line = record { commas = 0; digit = false; value = 0; first = 0; second = 0; third = 0 }

-- a line so far with one digit more
unfoldable pub with_digit : LineSoFar → ℕ → LineSoFar
with_digit m d = record {
  commas = m.commas;
  digit = true;
  value = min cap (10 * m.value + d);
  first = m.first;
  second = m.second;
  third = m.third;
}

-- a comma after its number, which is now the last of the three
unfoldable pub with_comma : LineSoFar → LineSoFar
with_comma m = record { commas = m.commas + 1; digit = false; value = 0; first = m.second; second = m.third; third = m.value }

-- the task of a line whose last number is the present one; it is high
abbrev pub task_so_far : LineSoFar → Task
task_so_far m = record { period = m.first; jitter = m.second; cost = m.third; deadline = m.value; low = false }

-- a digit after a lone 0 makes a leading zero of it
unfoldable pub after_zero : LineSoFar → Bool
after_zero m = m.digit && eqb m.value 0

-- what a byte does to a line so far: the line goes on, or it ends with its task, or it has another form
unfoldable pub taken : LineSoFar → ℕ → Taken
taken m b =
    elim (is_digit b) [
      | true ↦ elim (after_zero m) [ true ↦ Broken | false ↦ Goes (with_digit m (b - 48)) ]
      | false ↦
          elim (eqb b comma) [
            | true ↦ elim (m.digit && ltb m.commas 3) [ true ↦ Goes (with_comma m) | false ↦ Broken ]
            | false ↦ elim (eqb b line_feed && (m.digit && eqb m.commas 3)) [ true ↦ Ends (task_so_far m) | false ↦ Broken ]
          ]
    ]

-- a loader that is not refused
abbrev pub going : TaskSet → LineSoFar → Loader
going s m = record { tasks = s; line = m; answer = Ok tt }

-- nothing is read yet
abbrev pub fresh : Loader
fresh = going (set_of []) no_line

-- a refusal with the number of the present line, which is the number of tasks
unfoldable pub halted : Loader → ℕ → Loader
halted s k = record { tasks = s.tasks; line = s.line; answer = Err (record { reason = reason_of k; place = s.tasks.count }) }

-- one task more, and a new line
unfoldable pub pushed : Loader → Task → Loader
pushed s t = record {
  tasks = record { tasks = set s.tasks.tasks s.tasks.count t; count = s.tasks.count + 1; charge = s.tasks.charge };
  line = no_line;
  answer = Ok tt;
}

-- what a byte does: 16 as soon as the line has another form, and at its end 4, then 6, as for a task without a charge
unfoldable pub after : Loader → Taken → Loader
after s Broken = halted s 16
after s (Goes m) = record { tasks = s.tasks; line = m; answer = Ok tt }
after s (Ends t) = elim (task_fault 0 s.tasks.count 0 t) [ some k ↦ halted s k | none ↦ pushed s t ]

-- once refused, nothing that follows changes the answer
unfoldable pub stepped : Loader → ℕ → Loader
stepped s b = elim s.answer [ Ok u ↦ after s (taken s.line b) | Err e ↦ s ]

-- a piece of text
unfoldable pub fed : Loader → List ℕ → Loader
fed s [] = s
fed s (b ∷ l) = fed (stepped s b) l

-- whether a line has begun that no line feed has ended
unfoldable pub begun : LineSoFar → Bool
begun m = m.digit || ltb 0 m.commas

-- whether the answer is decided, whatever follows
unfoldable pub decided : Loader → Bool
decided s = elim s.answer [ Ok u ↦ false | Err e ↦ true ]

-- a refusal, with its number and its place
abbrev pub refusal : ℕ → ℕ → Result TaskSet Refusal
refusal n p = Err (record { reason = reason_of n; place = p })

-- the answer where the text ends here: a refusal made before, 16 for a line that no line feed ends, 5 for no line, else the tasks
unfoldable pub closed : Loader → Result TaskSet Refusal
closed s =
    elim s.answer [
      | Err e ↦ Err e
      | Ok u ↦
          elim (begun s.line) [
            | true ↦ refusal 16 s.tasks.count
            | false ↦
                elim (end_fault s.tasks.count) [
                  | some k ↦ refusal k s.tasks.count
                  | none ↦ Ok s.tasks
                ]
          ]
    ]

-- the answer of a load: the tasks, or number and place
abbrev pub loaded_in : Result TaskSet Refusal → Answer (List Task)
loaded_in r = answer_in tasks_in r

-- what a load promises of its answer, given the definition's: it is the same, and so is the sheet, with 0 past its count and no charge
pub record LoadSays (a : Answer (List Task)) (r : Result TaskSet Refusal) : Type 0 where
  pub answer : loaded_in r ≡ a
  pub sheet : (s : TaskSet) → r ≡ Ok s → s ≡ load_sheet a

-- what the end of a text promises of any loader; where the loader was fed a text, however many pieces it came in, it answers as the whole
pub record Finishes (s : Loader) (r : Result TaskSet Refusal) : Type 0 where
  pub is : r ≡ closed s
  pub says : (text : List ℕ) → s ≡ fed fresh text → LoadSays (load text) r
