use native.Mathlib.Omega.{arith}
use Rattle.answers.proofs.AnswerLaws.{tried_printed}
use Rattle.answers.proofs.LoadedTextLaws.{csv_printed}
use Rattle.answers.proofs.choose_csv_text.Goals as goal

pub returns : goal.returns
returns c = csv_printed _ _ _ _ _ (λ text e. tried_printed _ _ _ _ _ _ _ (omega arith) (c.choose_fed.ensures text e) c.or_refusal.ensures)
