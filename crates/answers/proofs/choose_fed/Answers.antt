use mathlib.Core.Path.{refl}
use Rattle.refusal.proofs.PassedOn.{passed}
use Rattle.answers.proofs.LoadedTextLaws.{csv_refused, csv_valid, csv_chosen}
use Rattle.answers.proofs.choose_fed.Goals as goal

pub returns-in_err-finish : goal.returns-in_err-finish
returns-in_err-finish c = λ text e. rw (passed _ _ c.from_residual.ensures.1) (csv_refused text _ (c.in_err-finish.ensures.says text e), refl)

pub put_chosen-requires : goal.put_chosen-requires
put_chosen-requires c = (csv_valid c.requires.0.text _ (c.in_ok-finish.ensures.says c.requires.0.text c.requires.0.is), c.requires.1)

pub returns : goal.returns
returns c = λ text e. rw (csv_chosen text _ (c.in_ok-finish.ensures.says text e)) at c.put_chosen.ensures
