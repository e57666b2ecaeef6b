-- What the steps of a program promise: a choice, or a text that was written, else the refusal to print.
use Rattle.std.specs.Prelude.{ℕ, ◌≡◌, List, Result, Ok, Err}
use Rattle.model.specs.Tasks.{Tasks}
use Rattle.model.specs.Choice.{unfit, choice}
use Rattle.refusal.specs.declared.Refusal.{Refusal}
use Rattle.refusal.specs.Refusal.{number_of}
use Rattle.choice.specs.Choices.{extent_in}
use Rattle.loader.specs.declared.Loader.{Loader}
use Rattle.loader.specs.Loader.{fresh, fed}
use Rattle.report.specs.Report.{choice_text, refusal_text}
use Rattle.report.specs.PutLine.{PutLine}
use Rattle.answers.specs.declared.Chosen.{Chosen}
use Rattle.answers.specs.Answers.{sheet_text, list_text, choose_csv_text}
use Rattle.answers.specs.Listed.{Kept, kept_text}

-- a choice that was made: its text is that of the sheet, and its kept jitters pass their check and run as those of the sheet's choice
pub record Made (s : Tasks) (c : Chosen) : Type 0 where
  pub text : choice_text (extent_in c.extent) s c.keep c.worst ≡ sheet_text s
  pub kept : Kept s c.keep
  pub list : (n : ℕ) (task tick cost : List ℕ) → kept_text s c.keep n task tick cost ≡ list_text s n task tick cost (choice s)

-- a choice, or 15 at a task that fits at no K
abbrev pub ChosenIs : Tasks → Result Chosen Refusal → Type 0
ChosenIs s (Ok c) = Made s c
ChosenIs s (Err e) = (15 ≡ number_of e.reason) × (choice s ≡ unfit e.place)

-- a text of at most m bytes was written, or it is that of the refusal, and nothing is written yet
abbrev pub Tried : ℕ → List ℕ → List ℕ → List ℕ → Result ℕ Refusal → Type 0
Tried m held text now (Ok n) = PutLine m held 0 text now n
Tried m held text now (Err e) = (refusal_text (number_of e.reason) e.place ≡ text) × (held ≡ now)

-- the same of the text that was fed to a loader
abbrev pub TriedFed : ℕ → Loader → List ℕ → List ℕ → Result ℕ Refusal → Type 0
TriedFed m s held now r = (text : List ℕ) → s ≡ fed fresh text → Tried m held (choose_csv_text text) now r

-- what was written stays, and the text of a refusal is written
abbrev pub OrRefusal : Result ℕ Refusal → List ℕ → List ℕ → ℕ → Type 0
OrRefusal (Ok n) held now m = (held ≡ now) × (m ≡ n)
OrRefusal (Err e) held now m = PutLine 64 held 0 (refusal_text (number_of e.reason) e.place) now m
