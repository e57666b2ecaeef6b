use native.Mathlib.Omega.{arith}
use Rattle.generator.proofs.ByCountLaws.{searching_none, searching_room, searching_all, searching_found, searching_next}
use Rattle.generator.proofs.search.Goals as goal

pub loop-n-init : goal.loop-n-init
loop-n-init c = searching_none _ _ _ _ _ _

pub seek-requires : goal.seek-requires
seek-requires c = searching_room _ _ _ _ _ _ _ _ _ _ _ c.loop-n.invariant c.requires (omega (arith, c.loop-n-test.true))

pub returns-in-Break : goal.returns-in-Break
returns-in-Break c =
    searching_found _ _ _ _ _ _ _ _ _ _ _ c.loop-n.invariant (omega (arith, c.loop-n-test.true)) _ _ _ _ c.seek.ensures _ c.in-Break.is

pub loop-n-preserved : goal.loop-n-preserved
loop-n-preserved c =
    searching_next _ _ _ _ _ _ _ _ _ _ _ c.loop-n.invariant (omega (arith, c.loop-n-test.true)) _ _ _ _ c.seek.ensures _ c.in-Continue.is
    c.seek.auto.task c.seek.auto.tick c.seek.auto.cost

pub returns : goal.returns
returns c = searching_all _ _ _ _ _ _ _ _ _ _ _ c.loop-n.invariant (omega (arith, c.loop-n-test.false))
