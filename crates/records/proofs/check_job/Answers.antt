use Rattle.refusal.proofs.PassedOn.{passed_on}
use mathlib.Core.Path.{◌≡◌, ap₂, ◌∙◌}
use native.Mathlib.Omega.{arith}
use Rattle.model.specs.Tasks.{Tasks}
use Rattle.model.specs.Checks.{release_fault, fault_at}
use Rattle.model.proofs.CheckLaws.{faulty, faultless, faultless_of}
use Rattle.fileformat.specs.File.{low_tick, high_tick}
use Rattle.fileformat.proofs.StepLaws.{list_over, list_fine}
use Rattle.fileformat.specs.Records.{width_in}
use Rattle.records.specs.RecordIn.{release_of}
use Rattle.records.proofs.ReleaseRecordLaws.{list_refused}
use Rattle.records.proofs.check_job.Goals.{After-high_tick-high}
use Rattle.records.proofs.check_job.Goals as goal

-- the ticks that the record may have go into the check of the release
ticks
    : (c : After-high_tick-high) (s : Tasks) → let a =
    c.args in
    fault_at a.at (release_fault s c.low_tick-low.result c.high_tick-high.result (release_of a.j))
    ≡ fault_at a.at (release_fault s (low_tick (width_in a.long) a.before) (high_tick (width_in a.long)) (release_of a.j))
ticks c s =
    let a = c.args in
    ap₂ (λ x y. fault_at a.at (release_fault s x y (release_of a.j))) c.low_tick-low.ensures c.high_tick-high.ensures

pub returns-in_err-check_release : goal.returns-in_err-check_release
returns-in_err-check_release c =
    let p = (goal.at.returns-in_err-check_release c).After-high_tick-high in
    λ s h e.
    passed_on _ _ c.from_residual.ensures.1 (list_refused _ _ _ _ _ _ _ (omega arith) (c.in_err-check_release.ensures s _ h e ∙ ticks p s))

pub returns-then-releases-ge1024 : goal.returns-then-releases-ge1024
returns-then-releases-ge1024 c =
    let p = (goal.at.returns-then-releases-ge1024 c).After-high_tick-high in
    λ s h e.
    faulty _ 10 _
    (list_over _ _ _ _ _ (omega arith) (faultless_of _ _ (c.in_ok-check_release.ensures s _ h e ∙ ticks p s)) (omega arith))

pub returns : goal.returns
returns c =
    let p = (goal.at.returns c).After-high_tick-high in
    λ s h e.
    faultless _ _ (list_fine _ _ _ _ _ (omega arith) (faultless_of _ _ (c.in_ok-check_release.ensures s _ h e ∙ ticks p s)) (omega arith))
