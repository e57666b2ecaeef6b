-- A code tells the number and the place of its refusal: nothing is lost where both go into one number. proofs/CodeLaws.antt proves it (`codes_tell`).
use Rattle.std.specs.Prelude.{ℕ, ◌<◌, ◌/◌, ◌%◌, ◌≡◌, true, false, List, eqb, length}
use Rattle.std.proofs.Math.Option.{Option, some, none}
use Rattle.model.specs.Refusal.{Refusal, Answer, refused, answered}
use Rattle.model.specs.Checks.{refusal_of}
use Rattle.model.specs.Calls.{arrival_call, verdict_call, trace_call, ready_inputs, run_inputs}
use Rattle.taskset.specs.TaskSet.{view_of}
use Rattle.monitor.specs.MonitorCalls.{open_inputs, check_task_in, show_call, all_refusal}
use Rattle.frame.specs.FrameView.{frame_from}
use Rattle.admission.specs.Offers.{ask_call}
use Rattle.admission.specs.Boards.{open_call, commit_call}
use Rattle.plan.specs.PlanView.{task_entry, board_view}
use Rattle.board.specs.BoardCalls.{commit_of}
use Rattle.rows.specs.Rows.{offer_numbers, board_numbers, plan_from, board_from, plan_row, board_row}
use Rattle.interface.specs.Interface.{task_at, sheet_from, framed_from, code_of, code_in, as_words, with_slots, one_word, verdict_words, trace_words, shown_words}
use Rattle.enumeration.specs.SmallCalls.{count_call}
use Rattle.smallcalls.specs.SmallWords.{words_last, small_answer}
use Rattle.nolkrada.specs.Files.{read_answer, write_answer}
use Rattle.nolkrada.specs.Texts.{load_answer}
use Rattle.nolkrada.specs.Runs.{jump_answer, choice_answer}

-- what a code tells: 0, that nothing is refused; else the number, code ÷ 2^32, and the place, the rest
unfoldable pub told : ℕ → Option Refusal
told c = elim (eqb c 0) [ true ↦ none | false ↦ some (record { number = c / 4294967296; place = c % 4294967296 }) ]

-- the refusal of an answer, if any
unfoldable pub refusal_from : {A : Type 0} → Answer A → Option Refusal
refusal_from (answered a) = none
refusal_from (refused r) = some r

-- the code of a refusal or of an answer tells just that refusal
abbrev pub Tells : Option Refusal → Type 0
Tells o = told (code_of o) ≡ o

abbrev pub TellsOf : {A : Type 0} → Answer A → Type 0
TellsOf a = told (code_in a) ≡ refusal_from a

-- the codes that the calls for C return, whatever goes in; a task number is one of 32 bits
pub record CodesTell : Type 0 where
  pub arrival
      : (sheet : List ℕ) (count charge task : ℕ) (kept : List ℕ) (t : ℕ) (answer : List ℕ)
      → task < 4294967296
      → TellsOf (with_slots 1 (length answer) (as_words one_word (arrival_call (view_of (sheet_from sheet count charge)) task kept t)))
  pub verdict
      : (sheet : List ℕ) (count charge : ℕ) (frame : List ℕ) (task : ℕ) (kept answer : List ℕ)
      → task < 4294967296
      → TellsOf (with_slots 4 (length answer) (as_words verdict_words (verdict_call (framed_from sheet count charge frame) task kept)))
  pub choice : (sheet : List ℕ) (count charge : ℕ) (frame kept worst answer : List ℕ) → TellsOf (choice_answer sheet count charge frame kept worst answer)
  pub trace
      : (sheet : List ℕ) (count charge n : ℕ) (task tick cost answer : List ℕ)
      → TellsOf (with_slots 2 (length answer) (as_words trace_words (trace_call (view_of (sheet_from sheet count charge)) n task tick cost)))
  pub ready
      : (sheet : List ℕ) (count charge : ℕ) (kept : List ℕ) (n : ℕ) (task tick cost ready : List ℕ)
      → Tells (refusal_of (ready_inputs (view_of (sheet_from sheet count charge)) kept n task tick cost ready))
  pub run
      : (sheet : List ℕ) (count charge : ℕ) (frame kept : List ℕ) (n : ℕ) (task tick cost ready finish : List ℕ)
      → Tells (refusal_of (run_inputs (framed_from sheet count charge frame) kept n task tick cost ready finish))
  pub jump
      : (sheet : List ℕ) (count charge : ℕ) (frame kept : List ℕ) (n : ℕ) (task tick cost ready finish answer : List ℕ)
      → TellsOf (jump_answer sheet count charge frame kept n task tick cost ready finish answer)
  pub read : (file sheet task tick cost answer : List ℕ) → TellsOf (read_answer file sheet task tick cost answer)
  pub load : (text sheet answer : List ℕ) → TellsOf (load_answer text sheet answer)
  pub write : (sheet : List ℕ) (count charge n : ℕ) (task tick cost out answer : List ℕ) → TellsOf (write_answer sheet count charge n task tick cost out answer)
  pub monitor_open
      : (sheet : List ℕ) (count charge : ℕ) (window : List ℕ) → Tells (refusal_of (open_inputs (view_of (sheet_from sheet count charge)) window))
  pub monitor_take : (window : List ℕ) (task : ℕ) → task < 4294967296 → Tells (check_task_in window task)
  pub monitor_show
      : (window : List ℕ) (task : ℕ) (answer : List ℕ) → task < 4294967296 → TellsOf (with_slots 3 (length answer) (as_words shown_words (show_call window task)))
  pub monitor_show_all : (window jobs late largest : List ℕ) → Tells (all_refusal window jobs late largest)
  pub board_open
      : (sheet : List ℕ) (count charge : ℕ) (frame board : List ℕ)
      → TellsOf (with_slots board_numbers (length board) (as_words board_row (open_call (framed_from sheet count charge frame))))
  pub board_ask
      : (sheet : List ℕ) (count charge : ℕ) (frame task : List ℕ) (place : ℕ) (offer : List ℕ)
      → place < 4294967296
      → TellsOf (with_slots offer_numbers (length offer) (as_words plan_row (ask_call (framed_from sheet count charge frame) (task_entry (task_at task 0)) place)))
  pub board_commit
      : (board offer sheet : List ℕ) (count charge : ℕ) (frame : List ℕ) (n : ℕ) (task tick cost : List ℕ) (at : ℕ)
      → TellsOf
      (with_slots board_numbers (length board)
      (as_words board_row
      (commit_call (board_view (board_from board)) (commit_of (plan_from offer) (sheet_from sheet count charge) (frame_from frame) n task tick cost at))))

-- the same of the calls on the small traces. proofs/CodeLaws.antt proves it (`small_codes_tell`).
pub record SmallCodesTell : Type 0 where
  pub small_trace
      : (sheet : List ℕ) (count charge releases ticks position : ℕ) (task tick cost answer : List ℕ)
      → releases < 4294967296
      → ticks < 4294967296
      → TellsOf (small_answer (view_of (sheet_from sheet count charge)) releases ticks position task tick cost answer)
  pub small_trace_count
      : (sheet : List ℕ) (count charge releases ticks : ℕ) (answer : List ℕ)
      → releases < 4294967296
      → ticks < 4294967296
      → TellsOf (words_last 1 (length answer) (count_call (view_of (sheet_from sheet count charge)) releases ticks))
