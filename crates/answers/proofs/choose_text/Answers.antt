use native.Mathlib.Omega.{arith}
use Rattle.answers.proofs.AnswerLaws.{choose_printed, tried_printed}
use Rattle.answers.proofs.choose_text.Goals as goal

pub returns : goal.returns
returns c = choose_printed _ _ _ _ _ _ (omega arith) (tried_printed _ _ _ _ _ _ _ (omega arith) c.choose_file.ensures c.or_refusal.ensures)
