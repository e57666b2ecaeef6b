use mathlib.Core.Path.{refl}
use Rattle.refusal.proofs.PassedOn.{passed}
use Rattle.answers.proofs.SaidLaws.{unfit_sheet}
use Rattle.answers.proofs.put_chosen.Goals as goal

pub returns-in_err-c : goal.returns-in_err-c
returns-in_err-c c = rw (passed _ _ c.from_residual.ensures.1) (unfit_sheet _ _ _ c.in_err-c.ensures, refl)
