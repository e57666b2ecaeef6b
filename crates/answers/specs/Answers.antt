-- What each program prints for the bytes of a file or of a text sheet.
use Rattle.std.specs.Prelude.{ℕ, ◌≡◌, true, List, map, ◌++◌, length, take, nat_abs}
use Rattle.model.specs.Tasks.{Tasks, Release}
use Rattle.model.specs.Refusal.{refused, answered}
use Rattle.model.specs.Ready.{ready_list}
use Rattle.model.specs.Run.{finish_list}
use Rattle.model.specs.Calls.{releases_of}
use Rattle.model.specs.Choice.{Choice, unfit, chosen, column, Scope, scope, choice}
use Rattle.fileformat.specs.File.{sheet_of, sheet_in, decode}
use Rattle.textformat.specs.TextSheet.{load}
use Rattle.loader.specs.declared.Loader.{Loader}
use Rattle.loader.specs.Loader.{fresh, fed, decided}
use Rattle.report.specs.Report.{choice_text, run_text, refusal_text}
use Rattle.report.specs.PutLine.{PutLine}

-- the columns of a list of releases
abbrev pub tasks_of : List Release → List ℕ
tasks_of l = map (λ r. r.task) l

abbrev pub ticks_of : List Release → List ℕ
ticks_of l = map (λ r. r.tick) l

abbrev pub costs_of : List Release → List ℕ
costs_of l = map (λ r. r.cost) l

-- the text of a choice, given which of the two it is
unfoldable pub chosen_text : Scope → Tasks → Choice → List ℕ
chosen_text c s (unfit i) = refusal_text 15 i
chosen_text c s (chosen ks ws) = choice_text c s ks (map nat_abs ws)

-- the text of a sheet's choice
abbrev pub sheet_text : Tasks → List ℕ
sheet_text s = chosen_text (scope s) s (choice s)

-- "the first reads a file, ignores its releases once read, and prints the choice"
unfoldable pub choose_text : List ℕ → List ℕ
choose_text f =
    elim (decode f) [
      | refused r ↦ refusal_text r.number r.place
      | answered x ↦ sheet_text (sheet_in x)
    ]

-- the third program prints the choice for a text sheet, or a refusal with the line's number
unfoldable pub choose_csv_text : List ℕ → List ℕ
choose_csv_text text =
    elim (load text) [
      | refused r ↦ refusal_text r.number r.place
      | answered ts ↦ sheet_text (sheet_of ts)
    ]

-- the text of a run of n releases in columns, with the kept jitters of whichever choice was made
unfoldable pub list_text : Tasks → ℕ → List ℕ → List ℕ → List ℕ → Choice → List ℕ
list_text s n task tick cost (unfit i) = refusal_text 15 i
list_text s n task tick cost (chosen ks ws) =
    run_text n task tick (ready_list s (column ks) (releases_of n task tick cost)) (finish_list s (column ks) (releases_of n task tick cost))

-- "the second runs the releases with the chosen K"
unfoldable pub replay_text : List ℕ → List ℕ
replay_text f =
    elim (decode f) [
      | refused r ↦ refusal_text r.number r.place
      | answered x ↦ list_text (sheet_in x) (length x.releases) (tasks_of x.releases) (ticks_of x.releases) (costs_of x.releases)
          (choice (sheet_in x))
    ]

-- n bytes of a file were read into a buffer: the file's first bytes, to its end or until the buffer was full
abbrev pub WasRead : List ℕ → List ℕ → ℕ → Type 0
WasRead file buffer n = take n buffer ≡ take (length buffer) file

-- a program's text, of at most m bytes: that of the n bytes read, which is that of the whole file, however long it is
pub record Printed (text : List ℕ → List ℕ) (m : ℕ) (buffer : List ℕ) (n : ℕ) (held now : List ℕ) (r : ℕ) : Type 0 where
  pub line : PutLine m held 0 (text (take n buffer)) now r
  pub whole : (file : List ℕ) → WasRead file buffer n → text (take n buffer) ≡ text file

-- what the third program prints of a loader, at most m bytes: what the text that was fed to it prints, and once it is decided, what any longer text prints
pub record PrintedFed (m : ℕ) (s : Loader) (held now : List ℕ) (r : ℕ) : Type 0 where
  pub line : (text : List ℕ) → s ≡ fed fresh text → PutLine m held 0 (choose_csv_text text) now r
  pub whole : (text more : List ℕ) → s ≡ fed fresh text → decided s ≡ true → choose_csv_text (text ++ more) ≡ choose_csv_text text
