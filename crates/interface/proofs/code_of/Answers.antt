-- The two cases of an answer.
use mathlib.Core.Path.{refl}
use Rattle.interface.specs.Interface.{code_of}
use Rattle.interface.proofs.code_of.Goals as goal

pub returns-in-Ok : goal.returns-in-Ok
unfolding code_of
returns-in-Ok c = rw c.in-Ok.is refl

pub returns-in-Err : goal.returns-in-Err
unfolding code_of
returns-in-Err c = rw c.in-Err.is c.refusal_code.ensures
