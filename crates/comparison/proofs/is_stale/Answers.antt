-- The sheets, the frames, then the offer.
use mathlib.Core.Path.{sym, ap, ◌∙◌}
use mathlib.Core.Bool.{not}
use native.Mathlib.Omega.{arith}
use borrow.Author.Tests.{not-false}
use Rattle.taskset.specs.TaskSet.{view_of}
use Rattle.frame.specs.FrameView.{frame_of}
use Rattle.admission.proofs.SameLaws.{tasks_of_lem}
use Rattle.comparison.proofs.SheetTestLaws.{stale_sheet, stale_frame, offer_decides}
use Rattle.comparison.proofs.is_stale.Goals as goal

pub returns-then-not-same_sheet : goal.returns-then-not-same_sheet
returns-then-not-same_sheet c =
    let a = c.args in
    stale_sheet (frame_of a.framed) (frame_of a.f) (view_of a.held) (view_of a.s) _ (sym c.same_sheet.ensures ∙ c.if-not-same_sheet.true)

pub returns-then-not-same_frame : goal.returns-then-not-same_frame
returns-then-not-same_frame c =
    let a = c.args in
    stale_frame (frame_of a.framed) (frame_of a.f) (view_of a.held) (view_of a.s) _ (sym c.same_sheet.ensures ∙ not-false _
    c.if-not-same_sheet.false-raw) (sym c.same_frame.ensures ∙ c.if-not-same_frame.true)

pub is_offer-requires : goal.is_offer-requires
is_offer-requires c = omega (arith, c.requires.few_tasks, (tasks_of_lem _ _ (sym c.same_sheet.ensures ∙ c.if-not-same_sheet.false)).count)

pub returns : goal.returns
returns c =
    let a = c.args in
    ap not c.is_offer.ensures ∙ offer_decides (frame_of a.framed) (frame_of a.f) (view_of a.held) (view_of a.s) _ (sym
    c.same_sheet.ensures ∙ c.if-not-same_sheet.false) (sym c.same_frame.ensures ∙
    c.if-not-same_frame.false)
