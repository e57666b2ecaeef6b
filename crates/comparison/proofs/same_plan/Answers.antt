-- The sheets, the kept jitters, the worst values, then which of the two choices.
use mathlib.Core.Path.{sym, ◌∙◌}
use Rattle.taskset.specs.TaskSet.{view_of}
use Rattle.frame.specs.FrameView.{frame_of}
use Rattle.comparison.proofs.CompareLaws.{mark_same, columns_differ, columns_agree}
use Rattle.comparison.proofs.SheetTestLaws.{sheets_differ, kept_differ, worst_differ, scope_decides}
use Rattle.comparison.proofs.same_plan.Goals as goal

pub returns-then-not-same_sheet : goal.returns-then-not-same_sheet
returns-then-not-same_sheet c =
    λ f.
    let a = c.args in
    sheets_differ (frame_of f) (view_of a.a.tasks) (view_of a.b.tasks) a.a.keep a.b.keep a.a.worst a.b.worst a.a.partial a.b.partial
    (sym c.same_sheet.ensures ∙ c.if-not-same_sheet.true)

pub returns-then-ne : goal.returns-then-ne
returns-then-ne c =
    λ f.
    let a = c.args in
    kept_differ (frame_of f) (view_of a.a.tasks) (view_of a.b.tasks) a.a.keep a.b.keep a.a.worst a.b.worst a.a.partial a.b.partial
    (sym c.same_sheet.ensures ∙ c.if-not-same_sheet.false)
    (columns_differ _ _ _ c.ne.ensures c.if-ne.true)

pub returns-then-ne-2 : goal.returns-then-ne-2
returns-then-ne-2 c =
    λ f.
    let a = c.args in
    worst_differ (frame_of f) (view_of a.a.tasks) (view_of a.b.tasks) a.a.keep a.b.keep a.a.worst a.b.worst a.a.partial a.b.partial
    (sym c.same_sheet.ensures ∙ c.if-not-same_sheet.false)
    (columns_agree _ _ _ c.ne.ensures c.if-ne.false) (columns_differ _ _ _ c.ne-2.ensures c.if-ne-2.true)

pub returns : goal.returns
returns c =
    λ f.
    let a = c.args in
    mark_same _ _ ∙ scope_decides (frame_of f) (view_of a.a.tasks) (view_of a.b.tasks) a.a.keep a.b.keep a.a.worst a.b.worst a.a.partial a.b.partial
    (sym c.same_sheet.ensures ∙ c.if-not-same_sheet.false)
    (columns_agree _ _ _ c.ne.ensures c.if-ne.false) (columns_agree _ _ _ c.ne-2.ensures c.if-ne-2.false)
