-- The calls: where one answers with a verdict or a run, demand 3 holds of it; where one answers with a choice, the choice is safe.
use Prim.Native.Nat.{ℕ}
use mathlib.Core.Path.{◌≡◌, sym}
use mathlib.Core.List.{List}
use lib.IntN.{ℤ}
use Rattle.model.specs.Tasks.{Tasks}
use Rattle.model.specs.Evaluations.{judged}
use Rattle.model.specs.Choice.{column, Scope, scope, choice}
use Rattle.model.specs.Calls.{releases_of, task_inputs, verdict_call, choice_inputs, choice_call}
use Rattle.model.proofs.CheckLaws.{valid_of, kept_of, task_of_lem, chosen_of}
use Rattle.model.proofs.OrderLaws.{accepted_of, answered_of}
use Rattle.model.proofs.TraceLaws.{trace_of, ticks_of_lem}
use Rattle.trace.proofs.LegalCheck.{trace_check}
use Rattle.guarantee.proofs.ChoiceSafe.{choice_safe}
use Rattle.guarantee.proofs.Demand3.{demand3}
use Rattle.guarantee.specs.ChoiceSafe.{Safe}
use Rattle.guarantee.specs.AnsweredCalls.{VerdictAnswers, MissedLegal, ChoiceAnswers, RunAnswers}

-- an answered verdict is the verdict defined, with the number of its evaluations, and demand 3 holds with the kept jitters given
pub verdict_answers : VerdictAnswers
unfolding verdict_call
verdict_answers s i kept j h =
    let d = answered_of (task_inputs s i kept) (judged s (column kept) i) j h in
    let a = accepted_of _ d.0 in
    (d.1, demand3 s (valid_of s (sym a.tasks)) (column kept) (kept_of s (column kept) (sym a.kept)) i (task_of_lem s i a.single))

-- the list that a "late" verdict promises passes the trace check
pub missed_legal : MissedLegal
missed_legal s k i d = trace_check s d.list d.trace d.legal

told_safe : (c d : Scope) (s : Tasks) (ks : List ℕ) (ws : List ℤ) → c ≡ d → Safe c s ks ws → Safe d s ks ws
told_safe c d s ks ws e h = rw e at h

-- a choice that is answered is the one told, and safe
pub choice_answers : ChoiceAnswers
unfolding choice_call
choice_answers s kept worst c h =
    let d = answered_of (choice_inputs s kept worst) (scope s) c h in
    let a = accepted_of _ d.0 in
    let o = chosen_of (choice s) a.unfit in
    let safe = choice_safe s (valid_of s (sym a.tasks)) o.keeps o.worsts o.is in
    record { kept = o.keeps; worst = o.worsts; told = d.1; is = o.is; safe = told_safe (scope s) c s o.keeps o.worsts d.1 safe }

-- a run that is not refused: its sheet, kept jitters and list are such, so demand 3 holds of its list
pub run_answers : RunAnswers
run_answers s kept n task tick cost ready finish h =
    let a = accepted_of _ (sym h) in
    let v = valid_of s (sym a.tasks) in
    let k = kept_of s (column kept) (sym a.kept) in
    record {
      valid = v;
      kept = k;
      trace = trace_of s (releases_of n task tick cost) (sym a.releases);
      ticks = ticks_of_lem s (releases_of n task tick cost) (sym a.releases);
      demand3 = demand3 s v (column kept) k;
    }
