-- The words stand in front, or are too few.
use Prim.Native.Nat.{ℕ}
use mathlib.Core.Path.{ap}
use mathlib.Core.List.{List, ◌++◌}
use lib.ListN.{length, drop}
use Rattle.interface.proofs.InterfaceLaws.{put_few, put_words}
use Rattle.interface.proofs.put_words.Goals as goal

pub returns-then-answer-n : goal.returns-then-answer-n
returns-then-answer-n c = put_few _ _ _ _ c.if-answer-n.true c.short_code.ensures

pub returns : goal.returns
returns c =
    let a = c.args in
    put_words _ a.words.now a.answer.now _ c.if-answer-n.false
    (ap (λ (x : List ℕ). x ++ drop (length a.words.now) a.answer.now) c.copy_from_slice.ensures.after)
