-- The checks before the new task, then the new sheet.
use Rattle.refusal.proofs.PassedOn.{passed}
use Rattle.offer.proofs.AskLaws.{ask_stopped, first_few, ask_made}
use Rattle.offer.proofs.ask.Goals as goal

pub returns-in_err-check_ask : goal.returns-in_err-check_ask
returns-in_err-check_ask c = rw (passed _ _ c.from_residual.ensures.1) (ask_stopped _ _ _ _ c.in_err-check_ask.ensures)

pub insert-new-requires : goal.insert-new-requires
insert-new-requires c = first_few _ _ c.in_ok-check_ask.ensures

pub returns : goal.returns
returns c =
    let a = c.args in
    ask_made a.s a.f a.t a.place _ c.in_ok-check_ask.ensures (rw c.insert-new.ensures at c.plan_of.ensures)
