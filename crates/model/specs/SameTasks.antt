-- "Entries of a sheet past its count are not looked at .. and do not matter", nor do "windows past the count" of its frame: sheets that agree on the tasks and on
-- the windows below the counts, and the same answer of every call on values.
-- proofs/SameAnswers.antt proves that the first gives the second (`same_answers`).
use Rattle.std.specs.Prelude.{ℕ, ◌<◌, ◌≡◌, List}
use Rattle.std.proofs.Math.Option.{Option, some, none}
use Rattle.model.specs.Frame.{Frame}
use Rattle.model.specs.Tasks.{Tasks}
use Rattle.model.specs.Ready.{ready_list}
use Rattle.model.specs.Run.{finish_list}
use Rattle.model.specs.Choice.{column, choice}
use Rattle.model.specs.Checks.{refusal_of}
use Rattle.model.specs.Calls.{releases_of, column_after, arrival_call, verdict_call, choice_inputs, choice_call, kept_column, worst_column, trace_call, ready_inputs, run_inputs, jump_call}

-- the same ticks and count, and the same first tick and length of every window below the count
pub record SameWindows (f g : Frame) : Type 0 where
  pub ticks : f.ticks ≡ g.ticks
  pub count : f.count ≡ g.count
  pub first : (k : ℕ) → k < f.count → f.first k ≡ g.first k
  pub size : (k : ℕ) → k < f.count → f.size k ≡ g.size k

-- no frame, or such frames
abbrev pub SameFrame : Option Frame → Option Frame → Type 0
SameFrame none none = Unit
SameFrame none (some g) = ⊥
SameFrame (some f) none = ⊥
SameFrame (some f) (some g) = SameWindows f g

-- the same count and charge, the same P, J, E, D and mark of every task below the count, and the same frame
pub record SameTasks (s s' : Tasks) : Type 0 where
  pub count : s.count ≡ s'.count
  pub period : (i : ℕ) → i < s.count → s.period i ≡ s'.period i
  pub jitter : (i : ℕ) → i < s.count → s.jitter i ≡ s'.jitter i
  pub cost : (i : ℕ) → i < s.count → s.cost i ≡ s'.cost i
  pub deadline : (i : ℕ) → i < s.count → s.deadline i ≡ s'.deadline i
  pub low : (i : ℕ) → i < s.count → s.low i ≡ s'.low i
  pub charge : s.charge ≡ s'.charge
  pub frame : SameFrame s.frame s'.frame

-- of each call on values, whatever else goes in: the same refusal, the same value, and the same in every lent column afterwards
pub record SameAnswers (s s' : Tasks) : Type 0 where
  -- arrival count
  pub arrival : (i : ℕ) (kept : List ℕ) (t : ℕ) → arrival_call s i kept t ≡ arrival_call s' i kept t
  -- verdict of one task
  pub verdict : (i : ℕ) (kept : List ℕ) → verdict_call s i kept ≡ verdict_call s' i kept
  -- trace check
  pub trace : (n : ℕ) (task tick cost : List ℕ) → trace_call s n task tick cost ≡ trace_call s' n task tick cost
  -- choice
  pub choice_answer_lem : (kept worst : List ℕ) → choice_call s kept worst ≡ choice_call s' kept worst
  pub choice_kept
      : (kept worst : List ℕ)
      → column_after (refusal_of (choice_inputs s kept worst)) (kept_column (choice s)) kept ≡ column_after (refusal_of (choice_inputs s' kept worst))
      (kept_column (choice s')) kept
  pub choice_worst
      : (kept worst : List ℕ)
      → column_after (refusal_of (choice_inputs s kept worst)) (worst_column (choice s)) worst ≡ column_after (refusal_of (choice_inputs s' kept worst))
      (worst_column (choice s')) worst
  -- ready ticks
  pub ready_refusal
      : (kept : List ℕ) (n : ℕ) (task tick cost ready : List ℕ)
      → refusal_of (ready_inputs s kept n task tick cost ready) ≡ refusal_of (ready_inputs s' kept n task tick cost ready)
  pub ready_ticks_lem
      : (kept : List ℕ) (n : ℕ) (task tick cost ready : List ℕ)
      → column_after (refusal_of (ready_inputs s kept n task tick cost ready)) (ready_list s (column kept) (releases_of n task tick cost)) ready
      ≡ column_after (refusal_of (ready_inputs s' kept n task tick cost ready)) (ready_list s' (column kept) (releases_of n task tick cost)) ready
  -- run
  pub run_refusal
      : (kept : List ℕ) (n : ℕ) (task tick cost ready finish : List ℕ)
      → refusal_of (run_inputs s kept n task tick cost ready finish) ≡ refusal_of (run_inputs s' kept n task tick cost ready finish)
  pub run_ready
      : (kept : List ℕ) (n : ℕ) (task tick cost ready finish : List ℕ)
      → column_after (refusal_of (run_inputs s kept n task tick cost ready finish)) (ready_list s (column kept) (releases_of n task tick cost)) ready
      ≡ column_after (refusal_of (run_inputs s' kept n task tick cost ready finish)) (ready_list s' (column kept) (releases_of n task tick cost)) ready
  pub run_finish
      : (kept : List ℕ) (n : ℕ) (task tick cost ready finish : List ℕ)
      → column_after (refusal_of (run_inputs s kept n task tick cost ready finish)) (finish_list s (column kept) (releases_of n task tick cost)) finish
      ≡ column_after (refusal_of (run_inputs s' kept n task tick cost ready finish)) (finish_list s' (column kept) (releases_of n task tick cost)) finish
  -- run that jumps: its columns are those of the run
  pub jump
      : (kept : List ℕ) (n : ℕ) (task tick cost ready finish : List ℕ)
      → jump_call s kept n task tick cost ready finish ≡ jump_call s' kept n task tick cost ready finish

-- such sheets get such answers
abbrev pub SameTasksAnswerSame : Type 0
SameTasksAnswerSame = (s s' : Tasks) → SameTasks s s' → SameAnswers s s'
