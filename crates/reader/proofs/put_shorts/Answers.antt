use Prim.Native.Nat.{◌+◌, ◌*◌}
use mathlib.Core.Path.{◌≡◌, refl}
use native.Mathlib.Omega.{arith}
use Rattle.reader.proofs.ReadColumnLaws.{Reading, short_room, putting_none, reading, putting_short}
use Rattle.reader.proofs.put_shorts.Goals.{In-loop-i}
use Rattle.reader.proofs.put_shorts.Goals as goal

-- the record that is read
here
    : (c : In-loop-i) → Reading c.args.f.now
    (c.args.start + 10 * c.loop-i.i)
here c = reading _ _ _ _ _ _ _ _ _ _ _ c.loop-i.invariant c.loop-i-test.true

pub loop-i-init : goal.loop-i-init
loop-i-init c =
    let g = c.requires in
    putting_none _ _ _ _ _ _ g.0 g.1 g.2 g.3 g.4

pub overflow_mul-at : goal.overflow_mul-at
overflow_mul-at c = omega (arith, c.loop-i.invariant.inside)

pub overflow_add-at : goal.overflow_add-at
overflow_add-at c = omega (arith, c.loop-i.invariant.inside)

pub bounds-f-at : goal.bounds-f-at
bounds-f-at c = omega (arith, (here (goal.at.bounds-f-at c).In-loop-i).placed_there.room)

pub returns-then-f-at-ne2 : goal.returns-then-f-at-ne2
returns-then-f-at-ne2 c = c.loop-i.invariant

pub overflow_add-at-in-loop-i : goal.overflow_add-at-in-loop-i
overflow_add-at-in-loop-i c = omega (arith, (here (goal.at.overflow_add-at-in-loop-i c).In-loop-i).placed_there.room)

pub job_at-job-requires : goal.job_at-job-requires
job_at-job-requires c = short_room _ _ (here (goal.at.job_at-job-requires c).In-loop-i) (omega arith)

pub loop-i-preserved : goal.loop-i-preserved
loop-i-preserved c = putting_short _ _ _ _ _ _ _ _ _ _ _ c.loop-i.invariant _ c.loop-i-test.true refl (omega arith) c.job_at-job.ensures

pub returns : goal.returns
returns c =
    let e : c.loop-i.i ≡ c.args.count = omega (arith, c.loop-i.invariant.within) in
    rw e at c.loop-i.invariant
