-- The blocks of an offer, each at its place.
use Rattle.rows.proofs.FillLaws.{plan_made}
use Rattle.rows.proofs.plan_from.Goals as goal

pub returns : goal.returns
returns c =
    plan_made c.args.row.now _ _ _ _ _ _
    c.number_at-count.ensures c.number_at-charge.ensures c.number_at-scope.ensures
    c.sheet_from-tasks.ensures c.numbers_from-keep.ensures c.numbers_from-worst.ensures
