-- The test of the start tick, and of NEVER past the list.
use Prim.Native.Nat.{ℕ}
use mathlib.Core.Path.{sym, ap, ◌∙◌}
use lib.Dec.{leb}
use Rattle.queues.proofs.SearchedLaws.{wake_in, wake_out}
use Rattle.queues.proofs.may_run.Goals as goal

pub start_of-requires : goal.start_of-requires
start_of-requires c = c.requires.soon _ c.if-p-n.true

pub returns-then-p-n : goal.returns-then-p-n
returns-then-p-n c = ap (λ (x : ℕ). leb x c.args.t) (c.start_of.ensures ∙ sym (wake_in _ _ _ c.if-p-n.true))

pub returns : goal.returns
returns c = ap (λ (x : ℕ). leb x c.args.t) (sym (wake_out _ _ _ c.if-p-n.false))
