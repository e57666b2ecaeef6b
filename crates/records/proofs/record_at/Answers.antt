use mathlib.Core.Path.{refl}
use mathlib.Core.Bool.{true, false}
use native.Mathlib.Omega.{arith}
use Rattle.fileformat.specs.Records.{short, long}
use Rattle.fileformat.proofs.OffsetLaws.{at_due, at_task_cut, at_task, at_low_task, at_wrong_mark}
use Rattle.fileformat.proofs.OffsetLaws.{at_release_cut, at_release, at_charge_cut, at_charge, at_end, at_unknown}
use Rattle.records.proofs.record_at.Goals as goal

pub returns-then-left-eq0 : goal.returns-then-left-eq0
returns-then-left-eq0 c = at_due c.args.f.now c.args.at (omega arith)

pub returns-then-left-lt10 : goal.returns-then-left-lt10
returns-then-left-lt10 c = at_release_cut c.args.f.now c.args.at short (omega arith) (omega arith) (omega arith)

pub returns-then-kind-eq2 : goal.returns-then-kind-eq2
returns-then-kind-eq2 c = at_release c.args.f.now c.args.at short _ (omega arith) (omega arith) (omega arith) c.job_at-job.ensures

pub returns-then-left-lt17 : goal.returns-then-left-lt17
returns-then-left-lt17 c = at_task_cut c.args.f.now c.args.at false (omega arith) (omega arith) (omega arith)

pub returns-then-kind-eq1 : goal.returns-then-kind-eq1
returns-then-kind-eq1 c = at_task c.args.f.now c.args.at _ (omega arith) (omega arith) (omega arith) c.task_at-task.ensures

pub returns-then-kind-lt3 : goal.returns-then-kind-lt3
returns-then-kind-lt3 c =
    at_unknown c.args.f.now c.args.at (omega arith) (λ e. omega arith) (λ e. omega arith) (λ e. omega arith) (λ e. omega arith)
    (λ e. omega arith) (λ e. omega arith)

pub returns-then-kind-eq3 : goal.returns-then-kind-eq3
returns-then-kind-eq3 c = at_end c.args.f.now c.args.at (omega arith) (omega arith)

pub returns-then-left-lt14 : goal.returns-then-left-lt14
returns-then-left-lt14 c = at_release_cut c.args.f.now c.args.at long (omega arith) (omega arith) (omega arith)

pub returns-then-kind-eq4 : goal.returns-then-kind-eq4
returns-then-kind-eq4 c = at_release c.args.f.now c.args.at long _ (omega arith) (omega arith) (omega arith) c.job_at-job-then-kind-eq4.ensures

pub returns-then-left-lt2 : goal.returns-then-left-lt2
returns-then-left-lt2 c = at_charge_cut c.args.f.now c.args.at (omega arith) (omega arith) (omega arith)

pub returns-then-kind-eq5 : goal.returns-then-kind-eq5
returns-then-kind-eq5 c = at_charge c.args.f.now c.args.at _ (omega arith) (omega arith) (omega arith) refl

pub returns-then-left-lt18 : goal.returns-then-left-lt18
returns-then-left-lt18 c = at_task_cut c.args.f.now c.args.at true (omega arith) (omega arith) (omega arith)

pub returns-then-f-at-ne0 : goal.returns-then-f-at-ne0
returns-then-f-at-ne0 c = at_wrong_mark c.args.f.now c.args.at (omega arith) (omega arith) (omega arith) (λ e. omega arith)

pub returns-then-kind-eq6 : goal.returns-then-kind-eq6
returns-then-kind-eq6 c = at_low_task c.args.f.now c.args.at _ (omega arith) (omega arith) (omega arith) (omega arith) c.task_at-task-then-kind-eq6.ensures

pub returns : goal.returns
returns c =
    at_unknown c.args.f.now c.args.at (omega arith) (λ e. omega arith) (λ e. omega arith) (λ e. omega arith) (λ e. omega arith)
    (λ e. omega arith) (λ e. omega arith)
