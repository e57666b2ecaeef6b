use Rattle.demand.proofs.FlatColumnLaws.{summed_none, summed_next, summed_all}
use Rattle.demand.proofs.above_load.Goals as goal

pub loop-j-init : goal.loop-j-init
loop-j-init c = summed_none _ _ _ _ _

pub term-sum-requires : goal.term-sum-requires
term-sum-requires c =
    let may = c.requires in
    (record {
      small = may.columns.small _ c.loop-j-test.true;
      factor = may.factored.each _ c.loop-j-test.true;
      tried = may.tried;
    })

pub loop-j-preserved : goal.loop-j-preserved
loop-j-preserved c = summed_next _ _ _ _ _ _ _ _ c.loop-j.invariant c.loop-j-test.true c.term-sum.ensures

pub returns : goal.returns
returns c = summed_all _ _ _ _ _ _ _ c.requires.columns.few c.loop-j.invariant c.loop-j-test.false
