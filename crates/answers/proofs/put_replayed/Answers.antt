use Prim.Native.Nat.{ℕ}
use mathlib.Core.Path.{refl, ◌∙◌}
use mathlib.Core.List.{List}
use native.Mathlib.Omega.{arith}
use lib.ListN.{replicate}
use Rattle.refusal.proofs.PassedOn.{passed}
use Rattle.answers.proofs.SaidLaws.{unfit_list}
use Rattle.answers.proofs.ReplayLaws.{never_refused, ran_said}
use Rattle.answers.proofs.put_replayed.Goals as goal

abbrev zeros : List ℕ
zeros = replicate 1024 0

pub returns-in_err-c : goal.returns-in_err-c
returns-in_err-c c = rw (passed _ _ c.from_residual.ensures.1) (unfit_list _ _ _ _ _ _ _ c.in_err-c.ensures, refl)

-- the run is not refused
pub returns-in_err-run : goal.returns-in_err-run
returns-in_err-run c =
    absurd
    (never_refused _ _ c.args.list.now.count c.args.list.now.task.now c.args.list.now.tick.now c.args.list.now.cost.now zeros zeros (omega (arith, c.requires.0.few)) (omega (arith, c.requires.0.few))
    c.requires.0 c.in_ok-c.ensures.kept _ _ c.in_err-run.ensures.answer)

pub returns : goal.returns
returns c =
    rw
    (ran_said _ _ c.args.list.now.count c.args.list.now.task.now c.args.list.now.tick.now c.args.list.now.cost.now zeros zeros (omega (arith, c.requires.0.few)) (omega (arith, c.requires.0.few))
    c.requires.0 c.in_ok-c.ensures.kept _ _ c.in_ok-run.ensures.ticks c.in_ok-run.ensures.finishes
    ∙ c.in_ok-c.ensures.list c.args.list.now.count c.args.list.now.task.now c.args.list.now.tick.now c.args.list.now.cost.now)
    at c.put_run.ensures
