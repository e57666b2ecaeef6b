-- The blocks of an offer, one after the other.
use Rattle.rows.proofs.RowLaws.{plan_put}
use Rattle.rows.proofs.put_plan.Goals as goal

pub returns : goal.returns
returns c f =
    plan_put c.args.p f _ _ _ _ _ _ c.requires.0 c.requires.1 c.cleaned-sheet.ensures c.put_sheet.ensures
    c.put_head.ensures c.put_numbers.ensures c.put_numbers-2.ensures
