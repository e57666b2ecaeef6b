use mathlib.Core.Path.{ap}
use Rattle.fileformat.specs.Records.{body_size}
use native.Mathlib.Omega.{arith}
use Rattle.reader.proofs.ReadColumnLaws.{Reading, reading, putting_next, putting_all}
use Rattle.reader.proofs.put_rest.Goals.{In-loop-i}
use Rattle.reader.proofs.put_rest.Goals as goal

-- the record that is read
here : (c : In-loop-i) → Reading c.args.f.now c.loop-i.at
here c = reading _ _ _ _ _ _ _ _ _ _ _ c.loop-i.invariant c.loop-i-test.true

pub loop-i-init : goal.loop-i-init
loop-i-init c = c.requires

pub overflow_mul-at : goal.overflow_mul-at
overflow_mul-at c = omega (arith, c.requires.inside)

pub overflow_add-at : goal.overflow_add-at
overflow_add-at c = omega (arith, c.requires.inside)

pub bounds-f-at : goal.bounds-f-at
bounds-f-at c = omega (arith, (here (goal.at.bounds-f-at c).In-loop-i).placed_there.room)

pub overflow_add-at-in-loop-i : goal.overflow_add-at-in-loop-i
overflow_add-at-in-loop-i c = omega (arith, (here (goal.at.overflow_add-at-in-loop-i c).In-loop-i).placed_there.room)

pub job_at-j-requires : goal.job_at-j-requires
job_at-j-requires c = let r = here (goal.at.job_at-j-requires c).In-loop-i in omega (arith, r.placed_there.room, ap body_size r.kind)

pub overflow_add-at-in-loop-i-2 : goal.overflow_add-at-in-loop-i-2
overflow_add-at-in-loop-i-2 c = let r = here (goal.at.overflow_add-at-in-loop-i-2 c).In-loop-i in omega (arith, r.placed_there.room, ap body_size r.kind)

pub loop-i-preserved : goal.loop-i-preserved
loop-i-preserved c = putting_next _ _ _ _ _ _ _ _ _ _ _ c.loop-i.invariant _ _ c.loop-i-test.true c.job_at-j.ensures c.release_size-at.ensures

pub returns : goal.returns
returns c = putting_all _ _ _ _ _ _ _ _ _ _ _ c.loop-i.invariant c.loop-i-test.false
