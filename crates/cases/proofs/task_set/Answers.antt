use Rattle.std.proofs.Common.{rules}
use Rattle.cases.proofs.CaseLaws.{filled_by_calls}
use Rattle.cases.proofs.task_set.Goals as goal

pub returns : goal.returns
returns c = record { count = c.index.ensures; charge = search rules; entries = filled_by_calls _ _ _ _ (λ i v q b. search rules) _ _ c.from_fn.ensures.items }
