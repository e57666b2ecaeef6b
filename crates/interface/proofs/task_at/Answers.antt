-- Five numbers make an entry.
use Rattle.interface.specs.Interface.{task_at}
use Rattle.interface.proofs.task_at.Goals as goal

pub returns : goal.returns
unfolding task_at
returns c = cc
