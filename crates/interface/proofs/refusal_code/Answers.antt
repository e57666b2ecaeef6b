-- By the number of its reason.
use Rattle.interface.proofs.refusal_code.Goals as goal

pub returns : goal.returns
returns c = rw c.number.ensures at c.number_code.ensures
