-- By the number of its reason.
use Rattle.interface.proofs.slots_code.Goals as goal

pub returns : goal.returns
returns c = rw c.number.ensures at c.number_slots_code.ensures
