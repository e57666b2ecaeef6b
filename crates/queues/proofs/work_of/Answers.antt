-- A place in the list has its cost and the charge, and one past it 0.
use mathlib.Core.Path.{sym}
use native.Mathlib.Omega.{arith}
use Rattle.queues.proofs.SearchedLaws.{work_in, work_out}
use Rattle.queues.proofs.work_of.Goals as goal

pub overflow_add-result : goal.overflow_add-result
overflow_add-result c = omega (arith, c.requires.high _ c.if-p-n.true)

pub returns-then-p-n : goal.returns-then-p-n
returns-then-p-n c = sym (work_in _ _ _ _ c.if-p-n.true)

pub returns : goal.returns
returns c = sym (work_out _ _ _ _ c.if-p-n.false)
