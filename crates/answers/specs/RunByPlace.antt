-- The text of the second program, release by release: what each field of a line means.
use Rattle.std.specs.Prelude.{ℕ, ◌≡◌, List, ◌++◌, length}
use Rattle.model.specs.Tasks.{Tasks, Release, release_at}
use Rattle.model.specs.Refusal.{refused, answered}
use Rattle.model.specs.Ready.{ready_at}
use Rattle.model.specs.Run.{finish_at, response_at}
use Rattle.model.specs.Choice.{Choice, unfit, chosen, column, choice}
use Rattle.fileformat.specs.File.{sheet_in, decode}
use Rattle.text.specs.Text.{lines}
use Rattle.answers.specs.Answers.{replay_text}
use Rattle.report.specs.Report.{run_header, run_fields, refusal_text}

-- the line of the release at p: "place in the list, task, release, ready, finish, response", the response being the one that "late" is about
unfoldable pub job_line : Tasks → (ℕ → ℕ) → List Release → ℕ → List ℕ
job_line s k l p = run_fields p (release_at l p).task (release_at l p).tick (ready_at s k l p) (finish_at s k l p) (response_at s k l p)

-- "the header shown, then a line for each .. release in order"
unfoldable pub jobs_text : Tasks → (ℕ → ℕ) → List Release → List ℕ
jobs_text s k l = run_header ++ lines (job_line s k l) (length l)

-- "the second runs the releases with the chosen K", of whichever choice was made; without a choice, 15
unfoldable pub with_chosen : Tasks → List Release → Choice → List ℕ
with_chosen s l (unfit i) = refusal_text 15 i
with_chosen s l (chosen ks ws) = jobs_text s (column ks) l

-- the text for the bytes of a file
unfoldable pub replay_by_place : List ℕ → List ℕ
replay_by_place f =
    elim (decode f) [
      | refused r ↦ refusal_text r.number r.place
      | answered x ↦ with_chosen (sheet_in x) x.releases (choice (sheet_in x))
    ]

-- `replay_by_place_lem` (proofs/ByPlaceLaws.antt): what the second program prints is this text, for every file
abbrev pub ReplayIsByPlace : Type 0
ReplayIsByPlace = (f : List ℕ) → replay_text f ≡ replay_by_place f
