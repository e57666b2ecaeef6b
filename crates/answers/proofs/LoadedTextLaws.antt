-- The text of a loader that was fed a text sheet.
use Prim.Native.Nat.{ℕ}
use mathlib.Core.Path.{◌≡◌, refl, sym, ap, ◌∙◌}
use mathlib.Core.Bool.{true}
use mathlib.Core.Option.{none}
use mathlib.Core.List.{List, ◌++◌}
use Rattle.model.specs.Checks.{check_tasks}
use Rattle.std.specs.Prelude.{Ok, Err}
use Rattle.refusal.specs.declared.Refusal.{Refusal}
use Rattle.refusal.specs.Refusal.{number_of}
use Rattle.taskset.specs.declared.TaskSet.{TaskSet}
use Rattle.taskset.specs.TaskSet.{view_of}
use Rattle.fileformat.specs.File.{sheet_of}
use Rattle.fileformat.specs.FileCalls.{tasks_in}
use Rattle.fileformat.proofs.RoundTripCalls.{view_set}
use Rattle.textformat.specs.TextSheet.{load}
use Rattle.textformat.proofs.TextTrips.{loaded_valid}
use Rattle.loader.specs.declared.Loader.{Loader}
use Rattle.loader.specs.Loader.{fresh, fed, decided, LoadSays}
use Rattle.loader.proofs.LoadLaws.{said_refused, said_tasks, said_sheet, decided_stays}
use Rattle.report.specs.Report.{refusal_text}
use Rattle.report.specs.PutLine.{PutLine}
use Rattle.answers.specs.Answers.{sheet_text, choose_csv_text, PrintedFed}

-- once decided, a longer text prints the same
csv_whole : (s : Loader) (text more : List ℕ) → s ≡ fed fresh text → decided s ≡ true → choose_csv_text (text ++ more) ≡ choose_csv_text text
unfolding choose_csv_text
csv_whole s text more e d = rw (choose_csv_text, decided_stays text more (ap decided (sym e) ∙ d))

pub csv_printed
    : (m : ℕ) (s : Loader) (held now : List ℕ) (r : ℕ) → ((text : List ℕ) → s ≡ fed fresh text → PutLine m held 0 (choose_csv_text text) now r) → PrintedFed m s held now r
csv_printed m s held now r p = record { line = p; whole = csv_whole s }

-- a text that is refused
pub csv_refused
    : (text : List ℕ) (q : Refusal) → LoadSays (load text) (Err q) → refusal_text (number_of q.reason) q.place ≡ choose_csv_text text
unfolding choose_csv_text
csv_refused text q h = rw (choose_csv_text, said_refused _ _ h q refl)

-- a text that is accepted
module _ (text : List ℕ) (t : TaskSet) (h : LoadSays (load text) (Ok t)) where
  fine_view : view_of t ≡ sheet_of (tasks_in t)
  fine_view = ap view_of (said_sheet _ _ h t refl) ∙ view_set 0 (tasks_in t)

  pub csv_valid : none ≡ check_tasks (view_of t)
  csv_valid = sym (ap check_tasks fine_view ∙ loaded_valid text _ (said_tasks _ _ h t refl))

  pub csv_chosen : sheet_text (view_of t) ≡ choose_csv_text text
  unfolding choose_csv_text
  csv_chosen = ap sheet_text fine_view ∙ rw (choose_csv_text, said_tasks _ _ h t refl)
