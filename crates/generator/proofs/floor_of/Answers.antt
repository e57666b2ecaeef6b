use Prim.Native.Nat.{suc, ◌-◌}
use mathlib.Core.Path.{◌≡◌}
use native.Mathlib.Omega.{arith}
use Rattle.generator.proofs.FloorLaws.{raising_none, raising_next, raising_all}
use Rattle.generator.proofs.floor_of.Goals as goal

pub loop-p-init : goal.loop-p-init
loop-p-init c = raising_none _ _ _ _ _ _

pub raise-f-requires : goal.raise-f-requires
raise-f-requires c =
    record {
      few = omega arith;
      early = c.requires.near (c.loop-p.p - 1) (omega (arith, c.loop-p.invariant.within));
    }

pub loop-p-preserved : goal.loop-p-preserved
loop-p-preserved c =
    let p = c.loop-p.p in
    let e : p ≡ suc (p - 1) = omega arith in
    rw c.raise-f.ensures (raising_next _ _ _ _ _ _ (p - 1) (omega (arith, c.loop-p.invariant.within)) _ (rw e at c.loop-p.invariant))

pub returns : goal.returns
returns c =
    let e : c.loop-p.p ≡ 0 = omega arith in
    raising_all _ _ _ _ _ _ _ (rw e at c.loop-p.invariant)
