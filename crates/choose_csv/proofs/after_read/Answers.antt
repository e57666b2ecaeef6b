use mathlib.Core.Path.{sym, ◌∙◌}
use Rattle.choose_csv.proofs.TurnLaws.{turn_ends, turn_prints, turn_reads}
use Rattle.choose_csv.proofs.after_read.Goals as goal

pub returns-then-n-eq0 : goal.returns-then-n-eq0
returns-then-n-eq0 c = turn_ends _ _ _ _ _ c.in-Ok.is c.min-n.ensures c.if-n-eq0.true

pub returns-then-is_decided : goal.returns-then-is_decided
returns-then-is_decided c =
    turn_prints _ _ _ _ _ c.in-Ok.is c.min-n.ensures c.if-n-eq0.false _ c.feed-next.ensures (sym c.is_decided.ensures ∙ c.if-is_decided.true)

pub returns : goal.returns
returns c =
    turn_reads _ _ _ _ _ c.in-Ok.is c.min-n.ensures c.if-n-eq0.false _ c.feed-next.ensures (sym c.is_decided.ensures ∙ c.if-is_decided.false)
