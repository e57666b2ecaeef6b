use Prim.Native.Nat.{◌+◌}
use mathlib.Core.Path.{sym, ap, ◌∙◌}
use native.Mathlib.Omega.{arith}
use Rattle.fileformat.specs.Records.{release_size}
use Rattle.writer.proofs.PartLaws.{Sized, sized_none, sized_next, sized_all}
use Rattle.writer.proofs.counted_size.Goals.{After-release_size-size}
use Rattle.writer.proofs.counted_size.Goals as goal

pub loop-i-init : goal.loop-i-init
loop-i-init c = sized_none _ _ c.requires.0 c.requires.1

-- one release more is counted
next
    : (c : After-release_size-size) → let l =
    c.loop-i in Sized c.args.count c.args.tick.now (l.size + c.release_size-size.result) (l.i + 1)
next c =
    let e = c.release_size-size.ensures ∙ ap release_size (sym c.is_long.ensures) in
    sized_next _ _ _ _ c.loop-i.invariant _ c.loop-i-test.true e

pub loop-i-preserved : goal.loop-i-preserved
loop-i-preserved c = next (goal.at.loop-i-preserved c).After-release_size-size

pub overflow_add-size : goal.overflow_add-size
overflow_add-size c = let n = next c in omega (arith, n.small, n.within, n.few)

pub returns : goal.returns
returns c = sized_all _ _ _ _ c.loop-i.invariant c.loop-i-test.false
