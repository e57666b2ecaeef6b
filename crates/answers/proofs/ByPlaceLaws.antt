-- What the second program prints is, field by field, what the definitions of ready tick, finish and response say.
use Prim.Native.Nat.{ℕ, ◌-◌, ◌<◌}
use mathlib.Core.Path.{◌≡◌, refl, sym, ap, ◌∙◌}
use mathlib.Core.List.{List, [], ◌++◌, append-nil}
use lib.ListN.{length, get_or, get_or-map}
use lib.IntN.{ℤ}
use Rattle.model.specs.Tasks.{Tasks, Release, release_at, no_release}
use Rattle.model.specs.Refusal.{Answer, refused, answered}
use Rattle.model.specs.Ready.{ready_at, ready_list}
use Rattle.model.specs.Run.{finish_at, response_at, finish_list}
use Rattle.model.specs.Calls.{releases_of}
use Rattle.model.specs.Choice.{Choice, unfit, chosen, column, choice}
use Rattle.model.proofs.TableLaws.{get_or_table}
use Rattle.fileformat.specs.File.{File, sheet_in, decode}
use Rattle.fileformat.proofs.RoundTripCalls.{releases_of_columns}
use Rattle.report.specs.Report.{run_header, run_fields, run_line, run_text}
use Rattle.answers.specs.Answers.{tasks_of, ticks_of, costs_of, list_text, replay_text}
use Rattle.answers.proofs.AnswerColumnLaws.{lines_same}
use Rattle.answers.specs.RunByPlace.{job_line, jobs_text, with_chosen, replay_by_place, ReplayIsByPlace}

module _ (s : Tasks) (k : ℕ → ℕ) (l : List Release) where
  -- a line of the columns is the line by definition
  same_line : (p : ℕ) → p < length l → run_line (tasks_of l) (ticks_of l) (ready_list s k l) (finish_list s k l) p ≡ job_line s k l p
  unfolding run_line job_line response_at ready_list finish_list
  same_line p h =
      let a : get_or (tasks_of l) p 0 ≡ (release_at l p).task = get_or-map (λ r. r.task) l p no_release in
      let b : get_or (ticks_of l) p 0 ≡ (release_at l p).tick = get_or-map (λ r. r.tick) l p no_release in
      let c = get_or_table (ready_at s k l) 0 (length l) p h in
      let d = get_or_table (finish_at s k l) 0 (length l) p h in
      λ i. run_fields p (a i) (b i) (c i) (d i) (d i - b i)

  same_text : run_text (length l) (tasks_of l) (ticks_of l) (ready_list s k l) (finish_list s k l) ≡ jobs_text s k l
  unfolding run_text jobs_text
  same_text = ap (λ t. run_header ++ t) (lines_same (run_line (tasks_of l) (ticks_of l) (ready_list s k l) (finish_list s k l)) (job_line s k l) (length l) same_line)

-- the columns of a list are that list
columns_back : (l : List Release) → releases_of (length l) (tasks_of l) (ticks_of l) (costs_of l) ≡ l
columns_back l =
    sym (λ i. releases_of (length l) (append-nil (tasks_of l) i) (append-nil (ticks_of l) i) (append-nil (costs_of l) i)) ∙ releases_of_columns l [] [] []

list_by_place : (s : Tasks) (l : List Release) (c : Choice) → list_text s (length l) (tasks_of l) (ticks_of l) (costs_of l) c ≡ with_chosen s l c
unfolding list_text with_chosen
list_by_place s l (unfit i) = refl
list_by_place s l (chosen ks ws) =
    ap (λ (x : List Release). run_text (length l) (tasks_of l) (ticks_of l) (ready_list s (column ks) x) (finish_list s (column ks) x)) (columns_back l)
    ∙ same_text s (column ks) l

-- the text of every file
pub replay_by_place_lem : ReplayIsByPlace
unfolding replay_text replay_by_place
replay_by_place_lem f = go (decode f) refl
  where
    go : (a : Answer File) → decode f ≡ a → replay_text f ≡ replay_by_place f
    go (refused r) e = rw (replay_text, replay_by_place, e)
    go (answered x) e = rw (replay_text, replay_by_place, e) (list_by_place (sheet_in x) x.releases (choice (sheet_in x)))

-- of an accepted file whose tasks fit: a line for each release, its last field the response
pub replay_jobs
    : (f : List ℕ) (x : File) (ks : List ℕ) (ws : List ℤ) → decode f ≡ answered x → choice (sheet_in x) ≡ chosen ks ws
    → replay_text f ≡ jobs_text (sheet_in x) (column ks) x.releases
unfolding replay_by_place with_chosen
replay_jobs f x ks ws e c = replay_by_place_lem f ∙ rw (replay_by_place, e, with_chosen, c)
