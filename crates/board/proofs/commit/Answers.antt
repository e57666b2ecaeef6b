-- What the checks say decides.
use mathlib.Core.Option.{some, none}
use Prim.Native.Nat.{ℕ}
use mathlib.Core.Path.{◌≡◌, refl}
use native.Mathlib.Omega.{arith}
use Rattle.refusal.proofs.PassedOn.{passed}
use Rattle.plan.specs.PlanView.{board_view}
use Rattle.board.specs.BoardCalls.{commit_of}
use Rattle.board.proofs.CommitLaws.{commit_refused, commit_accepted}
use Rattle.board.proofs.commit.Goals as goal

pub returns-in_err-check_commit : goal.returns-in_err-check_commit
returns-in_err-check_commit c =
    let a = c.args in
    let r = commit_refused (board_view a.b.now) (commit_of a.o a.s a.f a.list.now.count a.list.now.task.now a.list.now.tick.now a.list.now.cost.now a.at) (some _) _ refl c.in_err-check_commit.ensures in
    record { answer = rw (passed _ _ c.from_residual.ensures.1) r.0; left = r.1; untouched = λ e. refl }

pub returns : goal.returns
returns c =
    let a = c.args in
    let r = commit_accepted (board_view a.b.now) (commit_of a.o a.s a.f a.list.now.count a.list.now.task.now a.list.now.tick.now a.list.now.cost.now a.at) none refl c.in_ok-check_commit.ensures in
    record { answer = r.0; left = r.1; untouched = λ e. let z : ◌≡◌ {A = ℕ} 0 1 = cc in absurd (omega arith) }
