-- Each check decides where those before it pass.
use Prim.Native.Nat.{◌≤◌}
use mathlib.Core.Path.{◌≡◌, sym, ◌∙◌}
use mathlib.Core.List.{List, [], ◌∷◌}
use native.Mathlib.Omega.{arith}
use Rattle.model.specs.Tasks.{Release}
use Rattle.model.specs.Checks.{Lent}
use Rattle.model.specs.Calls.{lends, releases_of}
use Rattle.model.proofs.CheckLaws.{valid_of, count_of, slots_first, slots_rest}
use Rattle.model.proofs.OrderLaws.{no_single, no_kept, no_unfit, refused_tasks, refused_count, refused_slots, releases_decide}
use Rattle.taskset.specs.TaskSet.{view_of}
use Rattle.refusal.proofs.PassedOn.{passed_on}
use Rattle.releases.proofs.ReleaseLaws.{Columns, columns_of, length_releases}
use Rattle.fileformat.specs.FileCalls.{list_bytes}
use Rattle.fileformat.proofs.WidthLaws.{list_high}
use Rattle.fileformat.proofs.TaskSizeLaws.{tasks_bytes_high}
use Rattle.fileformat.proofs.RoundTrips.{charge_bytes_high}
use Rattle.writer.proofs.WriteLaws.{fine_of, rising_of, bytes_lent, bytes_short, bytes_long}
use Rattle.writer.proofs.check_write.Goals.{Start, In_ok-check, In_ok-check_count, In_ok-check_columns, After-list_size}
use Rattle.writer.proofs.check_write.Goals as goal

-- the list, its columns, and the bytes
abbrev list : Start → List Release
list c = let a = c.args in releases_of a.list.now.count a.list.now.task.now a.list.now.tick.now a.list.now.cost.now

abbrev columns : Start → List Lent
columns c = let a = c.args in lends a.list.now.count a.list.now.task.now ∷ lends a.list.now.count a.list.now.tick.now ∷ lends a.list.now.count a.list.now.cost.now ∷ []

abbrev bytes : Start → List Lent
bytes c = bytes_lent (view_of c.args.s) (list c) c.args.room ∷ []

-- the checks that passed
few_tasks : (c : In_ok-check) → c.args.s.count ≤ 32
few_tasks c = (valid_of _ (sym c.in_ok-check.ensures)).few_tasks

few_releases : (c : In_ok-check_count) → c.args.list.now.count ≤ 1024
few_releases c = count_of _ c.in_ok-check_count.ensures

columns_long : (c : In_ok-check_columns) → let a = c.args in Columns a.list.now.count a.list.now.task.now a.list.now.tick.now a.list.now.cost.now
columns_long c = columns_of _ _ _ _ c.in_ok-check_columns.ensures

-- the bytes
size_is : (c : After-list_size) → let a = c.args in c.list_size.result ≡ list_bytes (releases_of a.list.now.count a.list.now.task.now a.list.now.tick.now a.list.now.cost.now)
size_is c = c.list_size.ensures c.args.list.now.task.now c.args.list.now.cost.now

size_small : (c : After-list_size) → c.list_size.result ≤ 14336
size_small c =
    let a = c.args in
    let l = releases_of a.list.now.count a.list.now.task.now a.list.now.tick.now a.list.now.cost.now in
    omega (arith, size_is c, list_high l, length_releases a.list.now.count a.list.now.task.now a.list.now.tick.now a.list.now.cost.now, count_of _ c.in_ok-check_count.ensures)

sheet_small : (c : After-list_size) → c.sheet_size-sized.result ≤ 578
sheet_small c =
    let s = c.args.s in
    let few = (valid_of _ (sym c.in_ok-check.ensures)).few_tasks in
    omega (arith, c.sheet_size-sized.ensures, charge_bytes_high s.charge, tasks_bytes_high (view_of s) s.count, few)

pub returns-in_err-check : goal.returns-in_err-check
returns-in_err-check c = passed_on _ _ c.from_residual.ensures.1 (refused_tasks _ _ c.in_err-check.ensures)

pub returns-in_err-check_count : goal.returns-in_err-check_count
returns-in_err-check_count c =
    passed_on _ _ c.from_residual-in_err-check_count.ensures.1
    (refused_count _ _ c.in_ok-check.ensures (no_single _) c.in_err-check_count.ensures)

pub returns-in_err-check_columns : goal.returns-in_err-check_columns
returns-in_err-check_columns c =
    let x = (goal.at.returns-in_err-check_columns c).Start in
    passed_on _ _ c.from_residual-in_err-check_columns.ensures.1
    (refused_slots _ _ c.in_ok-check.ensures (no_single _) c.in_ok-check_count.ensures
    (slots_first (columns x) (bytes x) _ c.in_err-check_columns.ensures))

pub check_releases-listed-requires : goal.check_releases-listed-requires
check_releases-listed-requires c =
    let long = columns_long c in
    (few_tasks (goal.at.check_releases-listed-requires c).In_ok-check, long.task_long, long.tick_long, long.cost_long)

pub sheet_size-sized-requires : goal.sheet_size-sized-requires
sheet_size-sized-requires c = few_tasks (goal.at.sheet_size-sized-requires c).In_ok-check

pub list_size-requires : goal.list_size-requires
list_size-requires c =
    let a = c.args in
    let p = goal.at.list_size-requires c in (
      few_releases p.In_ok-check_count,
      (columns_long p.In_ok-check_columns).tick_long,
      λ e. rising_of (view_of a.s) a.list.now.count a.list.now.task.now a.list.now.tick.now a.list.now.cost.now
          (fine_of _ (sym c.is_ok.ensures.value ∙ e) ∙ c.check_releases-listed.ensures),
    )

pub overflow_add-end : goal.overflow_add-end
overflow_add-end c = omega (arith, sheet_small c, size_small c)

pub overflow_add-result : goal.overflow_add-result
overflow_add-result c = let p = (goal.at.overflow_add-result c).After-list_size in omega (arith, sheet_small p, size_small p)

pub returns-then-room-end : goal.returns-then-room-end
returns-then-room-end c =
    let p = goal.at.returns-then-room-end c in
    let x = p.Start in
    refused_slots _ _ c.in_ok-check.ensures (no_single _) c.in_ok-check_count.ensures
    (bytes_short (view_of c.args.s) _ _ (list x) _ c.sheet_size-sized.ensures (size_is p.After-list_size) (omega arith)
    ∙ sym (slots_rest (columns x) (bytes x) c.in_ok-check_columns.ensures))

pub returns : goal.returns
returns c =
    let p = goal.at.returns c in
    let x = p.Start in
    c.check_releases-listed.ensures
    ∙ releases_decide _ c.in_ok-check.ensures (no_single _) c.in_ok-check_count.ensures
    (bytes_long (view_of c.args.s) _ _ (list x) _ c.sheet_size-sized.ensures (size_is p.After-list_size) (omega arith)
    ∙ sym (slots_rest (columns x) (bytes x) c.in_ok-check_columns.ensures))
    (no_kept _) no_unfit
