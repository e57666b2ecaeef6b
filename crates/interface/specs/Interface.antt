-- The C interface: a sheet passed as numbers, refusals as codes, answers as words in a lent slice.
use Rattle.std.specs.Prelude.{ℕ, ◌+◌, ◌-◌, ◌*◌, ◌%◌, min, ◌≡◌, Bool, true, false, not, ◌&&◌, ◌||◌, List, [], ◌∷◌, ◌++◌, length, get_or, drop, replicate, leb, ltb, eqb, nat_abs}
use Rattle.std.proofs.Math.Option.{Option, some, none}
use Rattle.model.specs.Series.{table}
use Rattle.model.specs.Tasks.{Tasks}
use Rattle.model.specs.Verdict.{horizon, late, fits}
use Rattle.model.specs.Evaluations.{Judged}
use Rattle.model.specs.LastJobs.{Shown}
use Rattle.model.specs.Choice.{Scope, ordinary, high_only}
use Rattle.model.specs.Refusal.{Refusal, Answer, refused, answered}
use Rattle.taskset.specs.declared.Task.{Task}
use Rattle.taskset.specs.declared.TaskSet.{TaskSet}
use Rattle.taskset.specs.TaskSet.{no_task}
use Rattle.frame.specs.FrameView.{framed_of, frame_from}

-- the entry of task i in a sheet passed as numbers: P, J, E, D and the mark of task 0, then of task 1, ..; the mark is 0 for high, another number for low; numbers
-- past the end count as 0
unfoldable pub task_at : List ℕ → ℕ → Task
task_at l i = record {
  period = get_or l (5 * i) 0;
  jitter = get_or l (5 * i + 1) 0;
  cost = get_or l (5 * i + 2) 0;
  deadline = get_or l (5 * i + 3) 0;
  low = not (eqb (get_or l (5 * i + 4) 0) 0);
}

-- the sheet of such numbers, a count and a charge: entries past the count are 0
abbrev pub sheet_from : List ℕ → ℕ → ℕ → TaskSet
sheet_from l n c = record { tasks = table (task_at l) (min n 32) ++ replicate (32 - n) no_task; count = n; charge = c }

-- the same sheet with a frame passed as numbers: its ticks, its count, then first tick and length of each window; numbers past the end count as 0, and no number is no
-- frame
abbrev pub framed_from : List ℕ → ℕ → ℕ → List ℕ → Tasks
framed_from l n c frame = framed_of (sheet_from l n c) (frame_from frame)

-- a refusal as one number: number · 2^32 + place
unfoldable pub refusal_code : ℕ → ℕ → ℕ
refusal_code n p = n * 4294967296 + p % 4294967296

-- what a call returns: 0 where it answered, else the code of its refusal
unfoldable pub code_of : Option Refusal → ℕ
code_of none = 0
code_of (some r) = refusal_code r.number r.place

unfoldable pub code_in : {A : Type 0} → Answer A → ℕ
code_in (answered a) = 0
code_in (refused r) = refusal_code r.number r.place

-- what stands in the lent words afterwards: the answer and then what the slots past it held; after a refusal, what they held
unfoldable pub words_after : Answer (List ℕ) → List ℕ → List ℕ
words_after (answered l) held = l ++ drop (length l) held
words_after (refused r) held = held

-- an answer as words
unfoldable pub as_words : {A : Type 0} → (A → List ℕ) → Answer A → Answer (List ℕ)
as_words f (answered a) = answered (f a)
as_words f (refused r) = refused r

-- 13: n slots are needed
abbrev pub too_few : ℕ → Refusal
too_few n = record { number = 13; place = n }

-- the numbers that a call on values checks after its lent slices: 12, those of the releases (7, 8, 9), 15, and those of a commit (19, 20)
unfoldable pub after_slots : ℕ → Bool
after_slots n = eqb n 12 || (leb 7 n && leb n 9) || eqb n 15 || (leb 19 n && leb n 20)

-- one more slice is lent to a call, the last of its slices, and n slots of it are needed. Where the call without it is refused:
-- 13 if the slots are too few and come before that refusal
unfoldable pub or_too_few : ℕ → ℕ → Refusal → Refusal
or_too_few n slots r = elim (ltb slots n && after_slots r.number) [ true ↦ too_few n | false ↦ r ]

-- and where that call has any answer
unfoldable pub with_slots : {A : Type 0} → ℕ → ℕ → Answer A → Answer A
with_slots n slots (answered a) = elim (ltb slots n) [ true ↦ refused (too_few n) | false ↦ answered a ]
with_slots n slots (refused r) = refused (or_too_few n slots r)

-- how a call ends that answers in n lent words: what it returns, and what stands in the words, given what they held
abbrev pub Ends : ℕ → Answer (List ℕ) → List ℕ → ℕ → List ℕ → Type 0
Ends n a held r words = (r ≡ code_in (with_slots n (length held) a)) × (words ≡ words_after (with_slots n (length held) a) held)

-- a number as one word
abbrev pub one_word : ℕ → List ℕ
one_word n = n ∷ []

-- which of the two choices it is, as one word: 0 for the ordinary one, 1 for that of the high tasks alone
unfoldable pub scope_word : Scope → List ℕ
scope_word ordinary = 0 ∷ []
scope_word high_only = 1 ∷ []

-- a verdict as four words: 0, q, 0 for horizon; 1, q, R for late; 2, q, R for fits; and then the number of its evaluations
unfoldable pub verdict_words : Judged → List ℕ
verdict_words j =
    elim j.says [
      | horizon q ↦ 0 ∷ q ∷ 0 ∷ j.evaluations ∷ []
      | late q r ↦ 1 ∷ q ∷ nat_abs r ∷ j.evaluations ∷ []
      | fits r q ↦ 2 ∷ q ∷ nat_abs r ∷ j.evaluations ∷ []
    ]

-- the answer of the trace check as two words: 0, 0 for legal; 1 and the release that is too close
unfoldable pub trace_words : Option ℕ → List ℕ
trace_words none = 0 ∷ 0 ∷ []
trace_words (some p) = 1 ∷ p ∷ []

-- what the display shows of a task as three words: jobs, late jobs and the largest response
unfoldable pub shown_words : Shown → List ℕ
shown_words x = x.jobs ∷ x.late ∷ x.largest ∷ []
