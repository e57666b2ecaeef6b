-- A job of a task that is not one of the n changes nothing.
use Prim.Native.Nat.{◌+◌}
use mathlib.Core.Path.{ap, ◌∙◌}
use native.Mathlib.Omega.{arith}
use lib.ListN.{get_or, set}
use Rattle.monitor.proofs.ColumnLaws.{slot_own, slot_none}
use Rattle.monitor.proofs.count_job.Goals as goal

pub returns-then-n-of : goal.returns-then-n-of
returns-then-n-of c =
    let h = c.if-n-of.true in (record {
      jobs_after = slot_none _ _ _ _ h;
      late_after = slot_none _ _ _ _ h;
      largest_after = slot_none _ _ _ _ h;
    })

pub with_one-next-requires : goal.with_one-next-requires
with_one-next-requires c =
    let p = c.requires in
    let h = c.if-n-of.false in
    (p.3.low _ (omega (arith, h)), p.4.low _ (omega (arith, h)))

pub returns : goal.returns
returns c =
    let a = c.args in
    let h = c.if-n-of.false in
    let e = c.with_one-next.ensures in
    let i = get_or a.window.now (34 + a.k) 0 in (record {
      jobs_after = ap (set a.jobs.now i) (ap (λ t. t.jobs) e) ∙ slot_own _ _ _ _ (omega (arith, h));
      late_after = ap (set a.late.now i) (ap (λ t. t.late) e) ∙ slot_own _ _ _ _ (omega (arith, h));
      largest_after = ap (set a.largest.now i) (ap (λ t. t.largest) e) ∙ slot_own _ _ _ _ (omega (arith, h));
    })
