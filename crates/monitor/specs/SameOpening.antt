-- "Entries of a sheet past its count are not looked at .. and do not matter": an opening answers the same on sheets that agree below their counts, and leaves the same in
-- every slot. proofs/SameOpeningLaws.antt proves it (`same_opening`).
use Rattle.std.specs.Prelude.{ℕ, ◌≡◌, List}
use Rattle.model.specs.Tasks.{Tasks}
use Rattle.model.specs.Checks.{refusal_of}
use Rattle.model.specs.SameTasks.{SameTasks}
use Rattle.monitor.specs.MonitorCalls.{open_inputs, open_after}

abbrev pub SameOpening : Type 0
SameOpening =
    (s s' : Tasks) → SameTasks s s' → (w : List ℕ) → (refusal_of (open_inputs s w) ≡ refusal_of (open_inputs s' w)) × (open_after s w ≡ open_after s' w)
