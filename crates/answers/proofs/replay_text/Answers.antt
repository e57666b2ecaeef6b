use native.Mathlib.Omega.{arith}
use Rattle.answers.proofs.AnswerLaws.{replay_printed, tried_printed}
use Rattle.answers.proofs.replay_text.Goals as goal

pub returns : goal.returns
returns c = replay_printed _ _ _ _ _ _ (omega arith) (tried_printed _ _ _ _ _ _ _ (omega arith) c.replay_file.ensures c.or_refusal.ensures)
