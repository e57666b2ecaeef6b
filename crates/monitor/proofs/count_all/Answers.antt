use Prim.Native.Nat.{◌≤◌}
use native.Mathlib.Omega.{arith}
use Rattle.monitor.specs.Layout.{used_in}
use Rattle.monitor.proofs.ColumnLaws.{cleared_self, counting_none, counting_next, counting_jobs, counting_late, counting_largest, jobs_all, late_all, largest_all}
use Rattle.monitor.proofs.count_all.Goals as goal

pub clear-requires : goal.clear-requires
clear-requires c = let p = c.requires in (p.2, p.3, p.4)

pub used_in-used-requires : goal.used_in-used-requires
used_in-used-requires c = c.requires.0

pub loop-k-init : goal.loop-k-init
loop-k-init c =
    let e = c.clear.ensures in
    let p = c.requires in
    counting_none _ _ _ _ _ _ _ _ _ p.0 (omega (arith, c.used_in-used.ensures)) (cleared_self _ _ _ e.jobs_after) (cleared_self _ _ _ e.late_after)
    (cleared_self _ _ _ e.largest_after)

pub count_job-requires : goal.count_job-requires
count_job-requires c =
    let p = c.requires in
    let f = c.loop-k.invariant in
    let h = c.loop-k-test.true in
    (p.0, p.1, omega (arith, f.few, h), counting_jobs _ _ _ _ _ _ _ _ _ _ f h, counting_late _ _ _ _ _ _ _ _ _ _ f h, counting_largest _ _ _ _ _ _ _ _ _ _ f h)

pub loop-k-preserved : goal.loop-k-preserved
loop-k-preserved c =
    let e = c.count_job.ensures in
    counting_next _ _ _ _ _ _ _ _ _ _ _ _ _ c.loop-k.invariant c.loop-k-test.true e.jobs_after e.late_after e.largest_after

pub returns : goal.returns
returns c =
    let f = c.loop-k.invariant in
    let e = c.clear.ensures in
    let w = c.args.window.now in
    let u = c.used_in-used.ensures in
    let h : used_in w ≤ c.loop-k.k = omega (arith, u, c.loop-k-test.false) in
    let g : c.loop-k.k ≤ used_in w = omega (arith, u, f.low) in (record {
      jobs_after = jobs_all w _ _ _ _ _ e.jobs_after f.jobs_is h g;
      late_after = late_all w _ _ _ _ _ e.late_after f.late_is h g;
      largest_after = largest_all w _ _ _ _ _ e.largest_after f.largest_is h g;
    })
