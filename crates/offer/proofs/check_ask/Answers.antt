-- Each check in turn.
use Rattle.refusal.proofs.PassedOn.{passed_on}
use native.Mathlib.Omega.{arith}
use Rattle.offer.proofs.AskLaws.{first_sheet, first_place, first_many, first_none}
use Rattle.offer.proofs.check_ask.Goals as goal

pub returns-in_err-check_sheet : goal.returns-in_err-check_sheet
returns-in_err-check_sheet c = passed_on _ _ c.from_residual.ensures.1 (first_sheet _ _ _ (c.in_err-check_sheet.ensures))

pub returns-then-s-place : goal.returns-then-s-place
returns-then-s-place c = first_place _ _ (c.in_ok-check_sheet.ensures) c.if-s-place.true

pub returns-then-s-ge32 : goal.returns-then-s-ge32
returns-then-s-ge32 c = first_many _ _ (c.in_ok-check_sheet.ensures) (omega arith) (omega arith)

pub returns : goal.returns
returns c = first_none _ _ (c.in_ok-check_sheet.ensures) (omega arith) (omega arith)
