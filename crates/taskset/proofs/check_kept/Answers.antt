use borrow.Author.Tests.{lt-ltb, le-ltb}
use Rattle.model.proofs.SearchLaws.{sought_none, sought_next, sought_here, sought_all}
use Rattle.model.proofs.CheckLaws.{refuses_kept, passes_kept}
use Rattle.taskset.proofs.check_kept.Goals as goal

pub loop-i-init : goal.loop-i-init
loop-i-init c = sought_none _ _

pub returns-then-t-kept : goal.returns-then-t-kept
returns-then-t-kept c =
    refuses_kept _ _ _
    (sought_here _ _ _ c.loop-i.invariant c.loop-i-test.true (lt-ltb _ _ c.if-t-kept.true))

pub loop-i-preserved : goal.loop-i-preserved
loop-i-preserved c = sought_next _ _ _ c.loop-i.invariant c.loop-i-test.true (le-ltb _ _ c.if-t-kept.false)

pub returns : goal.returns
returns c = passes_kept _ _ (sought_all _ _ _ c.loop-i.invariant c.loop-i-test.false)
