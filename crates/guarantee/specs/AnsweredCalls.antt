-- The calls: where one answers with a verdict or a run, demand 3 holds of it; where one answers with a choice, the choice is safe. proofs/AnsweredCalls.antt proves it
-- (`verdict_answers`, `missed_legal`, `choice_answers`, `run_answers`).
use Rattle.std.specs.Prelude.{ℕ, ◌≤◌, ◌<◌, ◌≡◌, List, length, ℤ}
use Rattle.std.proofs.Math.Option.{none}
use Rattle.model.specs.Limits.{max_tick}
use Rattle.model.specs.Tasks.{Tasks, Release, release_at, Valid}
use Rattle.model.specs.Legality.{first_close}
use Rattle.model.specs.Evaluations.{Judged, judged}
use Rattle.model.specs.Choice.{column, chosen, Scope, scope, choice}
use Rattle.model.specs.Claims.{Trace, Missed, Demand3}
use Rattle.model.specs.Refusal.{answered}
use Rattle.model.specs.Checks.{refusal_of}
use Rattle.model.specs.Calls.{releases_of, verdict_call, choice_call, run_inputs}
use Rattle.guarantee.specs.ChoiceSafe.{Safe}

-- an answered verdict is the verdict defined, with the number of its evaluations, and demand 3 holds with the kept jitters given
abbrev pub VerdictAnswers : Type 0
VerdictAnswers =
    (s : Tasks) (i : ℕ) (kept : List ℕ) (j : Judged) → verdict_call s i kept ≡ answered j
    → (judged s (column kept) i ≡ j) × Demand3 s (column kept) i

-- the list that a "late" verdict promises passes the trace check
abbrev pub MissedLegal : Type 0
MissedLegal = (s : Tasks) (k : ℕ → ℕ) (i : ℕ) (d : Missed s k i) → first_close s d.list ≡ none

-- a choice that succeeds, which of the two it is, and what it is worth
pub record SafeChoice (c : Scope) (s : Tasks) : Type 0 where
  pub kept : List ℕ
  pub worst : List ℤ
  pub told : scope s ≡ c
  pub is : choice s ≡ chosen kept worst
  pub safe : Safe c s kept worst

-- a choice that is answered is the one told, and safe
abbrev pub ChoiceAnswers : Type 0
ChoiceAnswers = (s : Tasks) (kept worst : List ℕ) (c : Scope) → choice_call s kept worst ≡ answered c → SafeChoice c s

-- what demand 3 asks of a sheet, kept jitters and a list, and what it says of every task
pub record RunHolds (s : Tasks) (k : ℕ → ℕ) (l : List Release) : Type 0 where
  pub valid : Valid s
  pub kept : (j : ℕ) → j < s.count → k j ≤ s.jitter j
  pub trace : Trace s l
  pub ticks : (p : ℕ) → p < length l → (release_at l p).tick ≤ max_tick
  pub demand3 : (i : ℕ) → i < s.count → Demand3 s k i

-- a run that is not refused: its sheet, kept jitters and list are such, so demand 3 holds of its list
abbrev pub RunAnswers : Type 0
RunAnswers =
    (s : Tasks) (kept : List ℕ) (n : ℕ) (task tick cost ready finish : List ℕ)
    → refusal_of (run_inputs s kept n task tick cost ready finish) ≡ none → RunHolds s (column kept) (releases_of n task tick cost)
