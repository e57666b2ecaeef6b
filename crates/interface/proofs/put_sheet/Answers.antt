use Rattle.interface.proofs.TaskNumberLaws.{put_none, put_next, put_all}
use Rattle.interface.proofs.put_sheet.Goals as goal

pub loop-i-init : goal.loop-i-init
loop-i-init c = put_none _ _ c.well_formed.0.1.1.0.1.0.1 c.requires

pub loop-i-preserved : goal.loop-i-preserved
loop-i-preserved c =
    put_next _ _ _ _ _ c.loop-i.invariant c.loop-i-test.true
    c.put_task.ensures

pub returns : goal.returns
returns c = put_all _ _ _ _ c.loop-i.invariant c.loop-i-test.false
