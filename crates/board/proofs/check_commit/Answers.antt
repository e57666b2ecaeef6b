-- The releases, then 19, then 20.
use Rattle.refusal.proofs.PassedOn.{passed_on}
use mathlib.Core.Path.{◌≡◌, sym, ◌∙◌}
use mathlib.Core.Option.{none}
use Rattle.admission.specs.Boards.{stale}
use Rattle.plan.specs.PlanView.{board_view}
use Rattle.board.specs.BoardCalls.{commit_of, list_refusal}
use Rattle.board.proofs.CommitLaws.{listed_valid, commit_list, commit_stale, commit_soon, commit_passes}
use Rattle.board.proofs.check_commit.Goals.{In_ok-check_list}
use Rattle.board.proofs.check_commit.Goals as goal

-- the checks before the offer pass
fine
    : (c : In_ok-check_list)
    → let a = c.args in none ≡ list_refusal (board_view a.b) a.list.now.count a.list.now.task.now a.list.now.tick.now a.list.now.cost.now
fine c = c.in_ok-check_list.ensures

pub returns-in_err-check_list : goal.returns-in_err-check_list
returns-in_err-check_list c =
    let a = c.args in
    passed_on _ _ c.from_residual.ensures.1 (commit_list (board_view a.b) (commit_of a.o a.s a.f a.list.now.count a.list.now.task.now a.list.now.tick.now a.list.now.cost.now a.at) _
    (c.in_err-check_list.ensures))

pub is_stale-requires : goal.is_stale-requires
is_stale-requires c = listed_valid _ _ _ _ _ (fine (goal.at.is_stale-requires c).In_ok-check_list)

pub returns-then-is_stale : goal.returns-then-is_stale
unfolding stale
returns-then-is_stale c =
    let a = c.args in
    commit_stale (board_view a.b) (commit_of a.o a.s a.f a.list.now.count a.list.now.task.now a.list.now.tick.now a.list.now.cost.now a.at) (fine
    (goal.at.returns-then-is_stale c).In_ok-check_list) (sym c.is_stale.ensures ∙ c.if-is_stale.true)

pub is_too_soon-requires : goal.is_too_soon-requires
is_too_soon-requires c = fine (goal.at.is_too_soon-requires c).In_ok-check_list

pub returns-then-is_too_soon : goal.returns-then-is_too_soon
unfolding stale
returns-then-is_too_soon c =
    let a = c.args in
    commit_soon (board_view a.b) (commit_of a.o a.s a.f a.list.now.count a.list.now.task.now a.list.now.tick.now a.list.now.cost.now a.at) (fine
    (goal.at.returns-then-is_too_soon c).In_ok-check_list) (sym c.is_stale.ensures ∙ c.if-is_stale.false) (sym
    c.is_too_soon.ensures ∙ c.if-is_too_soon.true)

pub returns : goal.returns
unfolding stale
returns c =
    let a = c.args in
    commit_passes (board_view a.b) (commit_of a.o a.s a.f a.list.now.count a.list.now.task.now a.list.now.tick.now a.list.now.cost.now a.at) (fine
    (goal.at.returns c).In_ok-check_list) (sym c.is_stale.ensures ∙ c.if-is_stale.false) (sym
    c.is_too_soon.ensures ∙ c.if-is_too_soon.false)
