use mathlib.Core.Path.{◌≡◌}
use native.Mathlib.Omega.{arith}
use Rattle.demand.proofs.FlatColumnLaws.{prepared_none, prepared_next}
use Rattle.demand.proofs.factors_of.Goals as goal

pub loop-j-init : goal.loop-j-init
loop-j-init c = (omega arith, prepared_none _)

pub factor_of-m-requires : goal.factor_of-m-requires
factor_of-m-requires c = c.requires.low _ c.loop-j-test.true

pub loop-j-preserved : goal.loop-j-preserved
loop-j-preserved c = (omega arith, prepared_next _ _ _ _ _ c.loop-j.invariant.1 (omega arith) c.factor_of-m.ensures)

pub returns : goal.returns
returns c =
    let e : c.loop-j.j ≡ c.args.n = omega arith in
    rw e at c.loop-j.invariant.1
