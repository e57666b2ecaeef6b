-- The tick against the last commit's, then against the finish ticks of the run.
use Prim.Native.Nat.{ℕ, ◌≤◌}
use native.Mathlib.Omega.{arith}
use mathlib.Core.List.{List}
use lib.ListN.{length, replicate, length-replicate}
use Rattle.plan.specs.PlanView.{board_view}
use Rattle.board.proofs.OverLaws.{column_kept}
use Rattle.board.proofs.CommitLaws.{listed_valid, finish_long, finishes, soon_before, soon_over}
use Rattle.board.proofs.is_too_soon.Goals.{Start}
use Rattle.board.proofs.is_too_soon.Goals as goal

-- the columns of the run
abbrev zeros : List ℕ
zeros = replicate 1024 0

zeros_long : 1024 ≤ length zeros
zeros_long = omega (arith, length-replicate {A = ℕ} 1024 0)

-- at most 32 tasks
few : (c : Start) → c.args.b.plan.tasks.count ≤ 32
few c = (listed_valid (board_view c.args.b) _ _ _ _ c.requires).few_tasks

pub returns-then-at-b : goal.returns-then-at-b
returns-then-at-b c = soon_before (board_view c.args.b) _ _ _ _ _ c.if-at-b.true

pub kept_of-kept-requires : goal.kept_of-kept-requires
kept_of-kept-requires c = few (goal.at.kept_of-kept-requires c).Start

pub any_over-requires : goal.any_over-requires
any_over-requires c =
    finish_long (board_view c.args.b) _ _ _ _ c.requires c.kept_of-kept.result zeros zeros (column_kept _ _ _ c.kept_of-kept.ensures) (omega (
      arith,
      c.kept_of-kept.ensures.long,
    )) zeros_long zeros_long _ c.run.ensures.finishes

pub returns : goal.returns
returns c =
    let a = c.args in
    soon_over (board_view a.b) _ _ _ _ _ _ _ (omega (arith, c.if-at-b.false))
    c.any_over.ensures (finishes (board_view a.b) _ _ _ _
    c.requires c.kept_of-kept.result zeros zeros
    (column_kept _ _ _ c.kept_of-kept.ensures) (omega (arith, c.kept_of-kept.ensures.long)) zeros_long zeros_long _
    c.run.ensures.finishes)
