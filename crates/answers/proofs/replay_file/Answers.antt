use Prim.Native.Nat.{ℕ}
use mathlib.Core.Path.{refl}
use mathlib.Core.List.{List}
use native.Mathlib.Omega.{arith}
use lib.ListN.{replicate}
use Rattle.refusal.proofs.PassedOn.{passed}
use Rattle.answers.proofs.ReplayLaws.{halts, Holds, holds}
use Rattle.answers.proofs.replay_file.Goals.{In_ok-got}
use Rattle.answers.proofs.replay_file.Goals as goal

abbrev zeros : List ℕ
zeros = replicate 1024 0

-- a file that was accepted
held : (c : In_ok-got)
    → Holds c.args.file.now zeros zeros zeros (omega arith) (omega arith) (omega arith) c.in_ok-got.got.releases c.in_ok-got.got.tasks
    c.read.new.task c.read.new.tick c.read.new.cost
held c =
    let h = c.in_ok-got.ensures in
    holds c.args.file.now zeros zeros zeros (omega arith) (omega arith) (omega arith) _ _ _ _ _ h.outcome h.sheet h.task_column h.tick_column h.cost_column

pub returns-in_err-got : goal.returns-in_err-got
returns-in_err-got c =
    rw (passed _ _ c.from_residual.ensures.1)
    ((halts c.args.file.now zeros zeros zeros (omega arith) (omega arith) (omega arith) _ _ c.in_err-got.ensures.outcome).replay, refl)

pub put_replayed-requires : goal.put_replayed-requires
put_replayed-requires c = ((held (goal.at.put_replayed-requires c).In_ok-got).listed, c.requires)

pub returns : goal.returns
returns c = rw (held (goal.at.returns c).In_ok-got).replay at c.put_replayed.ensures
