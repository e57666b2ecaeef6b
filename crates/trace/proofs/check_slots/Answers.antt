-- The slices in document 01's order: the column by task, then those by release.
use Rattle.refusal.proofs.PassedOn.{passed_on}
use Rattle.trace.proofs.ListCallLaws.{lent_kept, lent_columns, lent_short, lent_fine}
use Rattle.trace.proofs.check_slots.Goals as goal

pub returns-then-kept-tasks : goal.returns-then-kept-tasks
returns-then-kept-tasks c =
    let a = c.args in lent_kept a.tasks a.kept.now a.list.now.count a.list.now.task.now a.list.now.tick.now a.list.now.cost.now a.slots
    c.if-kept-tasks.true

pub returns-in_err-check_columns : goal.returns-in_err-check_columns
returns-in_err-check_columns c =
    let a = c.args in
    passed_on _ _ c.from_residual.ensures.1 (lent_columns a.tasks a.kept.now a.list.now.count a.list.now.task.now a.list.now.tick.now a.list.now.cost.now a.slots
    c.if-kept-tasks.false _ c.in_err-check_columns.ensures)

pub returns-then-slots-list : goal.returns-then-slots-list
returns-then-slots-list c =
    let a = c.args in
    lent_short a.tasks a.kept.now a.list.now.count a.list.now.task.now a.list.now.tick.now a.list.now.cost.now a.slots
    c.if-kept-tasks.false c.in_ok-check_columns.ensures c.if-slots-list.true

pub returns : goal.returns
returns c =
    let a = c.args in
    lent_fine a.tasks a.kept.now a.list.now.count a.list.now.task.now a.list.now.tick.now a.list.now.cost.now a.slots
    c.if-kept-tasks.false c.in_ok-check_columns.ensures c.if-slots-list.false
