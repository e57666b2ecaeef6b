use Rattle.loader.proofs.PieceLaws.{fed_nothing}
use Rattle.choose_csv.proofs.TurnLaws.{turn_fed}
use Rattle.choose_csv.proofs.main.Goals as goal

pub loop-init : goal.loop-init
loop-init c = fed_nothing _ c.start-l.ensures

pub print-requires : goal.print-requires
print-requires c = turn_fed _ _ _ _ c.loop.invariant c.in-Prints.ensures

pub loop-preserved : goal.loop-preserved
loop-preserved c = turn_fed _ _ _ _ c.loop.invariant c.in-Reads.ensures
