-- The check of a release record.
use Prim.Native.Nat.{ℕ, ◌≤◌}
use mathlib.Core.Path.{◌≡◌, ap, ◌∙◌}
use mathlib.Core.Option.{some}
use Rattle.model.specs.Tasks.{Tasks, Release}
use Rattle.model.specs.Refusal.{Refusal}
use Rattle.model.specs.Checks.{release_fault, fault_at}
use Rattle.model.proofs.CheckLaws.{faulty, fault_of_lem}
use Rattle.fileformat.specs.Records.{Width}
use Rattle.fileformat.specs.File.{low_tick, high_tick, list_fault}
use Rattle.fileformat.proofs.StepLaws.{list_fault_lem}

-- the fault of a release decides its record's
pub list_refused
    : (s : Tasks) (n before p : ℕ) (w : Width) (r : Release) (q : Refusal) → 1 ≤ s.count
    → some q ≡ fault_at p (release_fault s (low_tick w before) (high_tick w) r) → some q ≡ fault_at p (list_fault s n before w r)
list_refused s n before p w r q l e =
    let a = fault_of_lem p _ q e in
    ap some a.1 ∙ faulty p q.number _ (list_fault_lem s n before w r q.number l a.0)
