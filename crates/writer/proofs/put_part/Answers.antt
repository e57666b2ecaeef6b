use native.Mathlib.Omega.{arith}
use Rattle.writer.proofs.StoreLaws.{stored_long}
use Rattle.writer.proofs.PartLaws.{put_none, next_alike, next_room, put_next, put_all, put_end}
use Rattle.writer.proofs.put_part.Goals as goal

pub loop-i-init : goal.loop-i-init
loop-i-init c =
    let p = c.requires in
    put_none _ _ _ _ _ _ _ _ p.0 p.1 p.2 p.3 p.4 p.5

pub put_release-requires : goal.put_release-requires
put_release-requires c =
    let p = c.loop-i.invariant in
    let h = c.loop-i-test.true in
    (next_room _ _ _ _ _ _ _ _ _ _ _ p h, next_alike _ _ _ _ _ _ _ _ _ _ _ p h)

pub overflow_add-at : goal.overflow_add-at
overflow_add-at c = omega (arith, next_room _ _ _ _ _ _ _ _ _ _ _ c.loop-i.invariant c.loop-i-test.true, c.release_size-size.ensures)

pub loop-i-preserved : goal.loop-i-preserved
loop-i-preserved c =
    let put = c.put_release.ensures in
    rw c.release_size-size.ensures
    (put_next _ _ _ _ _ _ _ _ _ _ _ c.loop-i.invariant _ c.loop-i-test.true put (stored_long _ _ _ _ put))

pub returns : goal.returns
returns c =
    let p = c.loop-i.invariant in
    (record {
      bytes = put_all _ _ _ _ _ _ _ _ _ _ _ p c.loop-i-test.false;
      end = put_end _ _ _ _ _ _ _ _ _ _ _ p c.loop-i-test.false;
    })
