-- Each check decides where those before it pass.
use Rattle.refusal.proofs.PassedOn.{passed_on}
use Prim.Native.Nat.{◌≤◌}
use mathlib.Core.Path.{◌≡◌, sym, ◌∙◌}
use mathlib.Core.Option.{some, none}
use Rattle.model.specs.Limits.{max_tasks}
use Rattle.model.specs.Choice.{column}
use Rattle.model.specs.Checks.{check_tasks, check_count, check_slots, check_kept}
use Rattle.model.proofs.CheckLaws.{valid_of}
use Rattle.taskset.specs.TaskSet.{view_of}
use Rattle.model.proofs.OrderLaws.{no_single, no_unfit, refused_tasks, refused_count, refused_slots, refused_kept, releases_decide}
use Rattle.trace.specs.TraceCalls.{slots_lent}
use Rattle.trace.proofs.ListCallLaws.{LongEnough, long_enough}
use Rattle.trace.proofs.check_call.Goals.{In_ok-check, In_ok-check_count, Start, In_ok-check_slots, In_ok-check_kept}
use Rattle.trace.proofs.check_call.Goals as goal

-- what each check that passes says
sheet_fine : (c : In_ok-check) → none ≡ check_tasks (view_of c.args.s)
sheet_fine c = c.in_ok-check.ensures

count_fine : (c : In_ok-check_count) → none ≡ check_count (some c.args.list.now.count)
count_fine c = c.in_ok-check_count.ensures

slots_fine
    : (c : In_ok-check_slots) → none ≡ check_slots ((slots_lent c.args.s.count c.args.kept.now c.args.list.now.count c.args.list.now.task.now c.args.list.now.tick.now c.args.list.now.cost.now c.args.slots))
slots_fine c = c.in_ok-check_slots.ensures

kept_fine
    : (c : In_ok-check_kept)
    → none ≡ check_kept (view_of
    c.args.s)
    (some (column c.args.kept.now))
kept_fine c = c.in_ok-check_kept.ensures

long
    : (c : Start) → none ≡ check_slots ((slots_lent c.args.s.count c.args.kept.now c.args.list.now.count c.args.list.now.task.now c.args.list.now.tick.now c.args.list.now.cost.now c.args.slots))
    → LongEnough c.args.s.count c.args.kept.now c.args.list.now.count c.args.list.now.task.now c.args.list.now.tick.now c.args.list.now.cost.now c.args.slots
long c e = long_enough _ _ _ _ _ _ _ e

few_tasks : (c : In_ok-check) → c.args.s.count ≤ max_tasks
few_tasks c = (valid_of _ (sym (sheet_fine c))).few_tasks

pub returns-in_err-check : goal.returns-in_err-check
returns-in_err-check c = passed_on _ _ c.from_residual.ensures.1 (refused_tasks _ _ (c.in_err-check.ensures))

pub returns-in_err-check_count : goal.returns-in_err-check_count
returns-in_err-check_count c =
    passed_on _ _ c.from_residual-in_err-check_count.ensures.1 (refused_count _ _ (sheet_fine (goal.at.returns-in_err-check_count c).In_ok-check) (no_single _) (c.in_err-check_count.ensures))

pub returns-in_err-check_slots : goal.returns-in_err-check_slots
returns-in_err-check_slots c =
    passed_on _ _ c.from_residual-in_err-check_slots.ensures.1 (refused_slots _ _ (sheet_fine (goal.at.returns-in_err-check_slots c).In_ok-check) (no_single _) (count_fine (goal.at.returns-in_err-check_slots c).In_ok-check_count)
    (c.in_err-check_slots.ensures))

pub check_kept-requires : goal.check_kept-requires
check_kept-requires c = (
  few_tasks (goal.at.check_kept-requires c).In_ok-check,
  (long
      (goal.at.check_kept-requires c).Start (slots_fine (goal.at.check_kept-requires c).In_ok-check_slots)).kept_long,
)

pub returns-in_err-check_kept : goal.returns-in_err-check_kept
returns-in_err-check_kept c =
    passed_on _ _ c.from_residual-in_err-check_kept.ensures.1 (refused_kept _ _ (sheet_fine (goal.at.returns-in_err-check_kept c).In_ok-check) (no_single _)
    (count_fine (goal.at.returns-in_err-check_kept c).In_ok-check_count) (slots_fine (goal.at.returns-in_err-check_kept c).In_ok-check_slots)
    (c.in_err-check_kept.ensures))

pub check_releases-requires : goal.check_releases-requires
check_releases-requires c =
    let l = (long (goal.at.check_releases-requires c).Start
    (slots_fine (goal.at.check_releases-requires c).In_ok-check_slots)).columns in
    (few_tasks (goal.at.check_releases-requires c).In_ok-check, l.task_long, l.tick_long, l.cost_long)

pub returns : goal.returns
returns c =
    c.check_releases.ensures
    ∙ releases_decide _ (sheet_fine (goal.at.returns c).In_ok-check) (no_single _)
    (count_fine (goal.at.returns c).In_ok-check_count) (slots_fine (goal.at.returns c).In_ok-check_slots) (kept_fine (goal.at.returns c).In_ok-check_kept) no_unfit
