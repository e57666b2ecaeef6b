-- The number of traces as a word, or the code of a refusal.
use mathlib.Core.Path.{sym}
use Rattle.smallcalls.proofs.WordLaws.{end_refused, end_answered}
use Rattle.smallcalls.proofs.count_words.Goals as goal

pub returns-in-Ok : goal.returns-in-Ok
returns-in-Ok c = end_answered _ _ _ _ _ _ _ (sym c.in-Ok.ensures) c.put_words.ensures

pub returns-in-Err : goal.returns-in-Err
returns-in-Err c = end_refused _ _ _ _ _ _ (sym c.in-Err.ensures) c.refusal_code.ensures
