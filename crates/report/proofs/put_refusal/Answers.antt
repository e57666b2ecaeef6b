-- By the number of its reason.
use Rattle.report.proofs.put_refusal.Goals as goal

pub returns : goal.returns
returns c = rw c.number.ensures at c.put_refused.ensures
