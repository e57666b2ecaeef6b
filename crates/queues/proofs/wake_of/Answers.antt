-- A place in the list has its start tick, and one past it has none.
use mathlib.Core.Path.{sym, ◌∙◌}
use Rattle.queues.proofs.SearchedLaws.{wake_in, wake_out}
use Rattle.queues.proofs.wake_of.Goals as goal

pub start_of-requires : goal.start_of-requires
start_of-requires c = c.requires.soon _ c.if-p-n.true

pub returns-then-p-n : goal.returns-then-p-n
returns-then-p-n c = c.start_of.ensures ∙ sym (wake_in _ _ _ c.if-p-n.true)

pub returns : goal.returns
returns c = sym (wake_out _ _ _ c.if-p-n.false)
