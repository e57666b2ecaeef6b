-- Above the place, at it, and below.
use Rattle.offer.proofs.AskLaws.{inserted_after}
use mathlib.Core.Path.{sym}
use native.Mathlib.Omega.{arith}
use Rattle.admission.proofs.AskedLaws.{inserted_above, inserted_here}
use Rattle.offer.proofs.shifted.Goals as goal

pub returns-then-i-place : goal.returns-then-i-place
returns-then-i-place c = sym (inserted_above _ _ _ _ c.if-i-place.true)

pub returns-then-i-place-2 : goal.returns-then-i-place-2
returns-then-i-place-2 c = sym (rw (sym c.if-i-place-2.true) (inserted_here _ _ _))

pub returns : goal.returns
returns c = inserted_after _ _ _ _ (omega arith)
