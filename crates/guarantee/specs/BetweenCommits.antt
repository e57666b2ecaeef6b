-- "Shares, limits and lateness are claimed from one commit to the next" (document 02, R-11), as one statement about every board that an opening and any commits, accepted
-- or refused, have made. proofs/BetweenCommits.antt proves it (`between_commits`).
use Rattle.std.specs.Prelude.{ℕ, ◌≤◌, ◌<◌, ◌≡◌, ◌⊎◌, true, List, [], ◌∷◌, length}
use Rattle.std.proofs.Math.Option.{Option, some, none}
use Rattle.model.specs.Limits.{max_tick}
use Rattle.model.specs.Tasks.{Tasks, board_of, Release, release_at}
use Rattle.model.specs.Gap.{Legal}
use Rattle.model.specs.Run.{Jobs, jobs, runs, finish_at}
use Rattle.model.specs.Choice.{column, judges}
use Rattle.model.specs.Claims.{Trace, Limit, Share, OnTime}
use Rattle.model.specs.Refusal.{Refusal, refused, answered, first_refusal}
use Rattle.model.specs.Checks.{refuse_if, check_count, check_slots, check_releases}
use Rattle.model.specs.Calls.{lends}
use Rattle.model.specs.SameTasks.{SameTasks}
use Rattle.admission.specs.Offers.{Entry, with_task}
use Rattle.admission.specs.Boards.{Board, open_call, WellFormed, Commit, releases_in, stale, too_soon, commit_refusal, commit_call, board_after, boards_after}

-- the sheet in force with its frame, and its kept jitters
abbrev pub in_force : Board → Tasks
in_force b = b.plan.tasks

abbrev pub kept_by : Board → ℕ → ℕ
kept_by b = column b.plan.kept

-- the run of a list of releases under a board: the run of document 01 of these releases alone, "a new run with no earlier jobs", with the sheet, frame and kept jitters in
-- force. Its ticks are those of the releases as they are given: tick 0 is the same tick before and after a commit, and the frame repeats from it
abbrev pub jobs_under : Board → List Release → Jobs
jobs_under b l = jobs (in_force b) (kept_by b) l

-- a list of any length that may be released after the last commit: a trace of the sheet in force, none of it before that commit's tick
pub record SinceLast (b : Board) (l : List Release) : Type 0 where
  pub trace : Trace (in_force b) l
  pub since : (p : ℕ) → p < length l → b.last ≤ (release_at l p).tick

-- what is claimed of its run, of every task of the sheet in force
pub record Between (b : Board) (l : List Release) : Type 0 where
  pub limit : (i : ℕ) → i < (in_force b).count → Limit (in_force b) (kept_by b) i l
  pub share : (i : ℕ) → i < (in_force b).count → Share (in_force b) (kept_by b) i l
  -- no job of a task that the choice in force judges is late, where its own releases are legal, whatever the others release
  pub on_time : (i : ℕ) → i < (in_force b).count → judges b.plan.scope (in_force b) i ≡ true → Legal (in_force b) l i → OnTime (in_force b) (kept_by b) i l
  -- no job of it runs up to the last commit's tick
  pub idle_before : (t : ℕ) → t ≤ b.last → runs (jobs_under b l) t ≡ none

-- the order of checks of a commit as document 02 has it
abbrev pub document_refusal : Board → Commit → Option Refusal
document_refusal b c =
    first_refusal
    (check_count (some c.count)
    ∷ check_slots (lends c.count c.task ∷ lends c.count c.tick ∷ lends c.count c.cost ∷ [])
    ∷ check_releases (in_force b) b.last 0 (releases_in c)
    ∷ refuse_if (stale b c) 19 0
    ∷ refuse_if (too_soon b c) 20 0
    ∷ [])

-- what an accepted commit ends, and what it puts in force
pub record Ended (b : Board) (c : Commit) (b' : Board) : Type 0 where
  -- the releases that it takes are such a list, with ticks that other calls take too
  pub list : SinceLast b (releases_in c)
  pub ticks : (p : ℕ) → p < length (releases_in c) → (release_at (releases_in c) p).tick ≤ max_tick
  -- its tick is not before the last commit's, and "no job of the earlier run is left unfinished" at it
  pub order : b.last ≤ c.at
  pub finished : (p : ℕ) → p < length (releases_in c) → finish_at (in_force b) (kept_by b) (releases_in c) p ≤ c.at
  pub idle_after : (t : ℕ) → c.at ≤ t → runs (jobs_under b (releases_in c)) t ≡ none
  -- the offer is in force from that tick on: the sheet that was in force with one task more
  pub is : b' ≡ record { plan = c.offer; last = c.at }
  pub task : Entry
  pub place : ℕ
  pub place_low : place ≤ (in_force b).count
  pub new_sheet : SameTasks (in_force b') (with_task place task (in_force b))
  -- the ticks that are ours stay as they were: the frame goes on from tick 0
  pub ours : (t : ℕ) → (board_of (in_force b')).ours t ≡ (board_of (in_force b)).ours t
  -- in no tick do jobs of both the run that ended and the run that follows run
  pub apart : (l : List Release) → SinceLast b' l → (t : ℕ) → (runs (jobs_under b (releases_in c)) t ≡ none) ⊎ (runs (jobs_under b' l) t ≡ none)

-- everything that is claimed of a board
pub record Claimed (b : Board) : Type 0 where
  pub well_formed : WellFormed b
  pub between : (l : List Release) → SinceLast b l → Between b l
  pub checks : (c : Commit) → commit_refusal b c ≡ document_refusal b c
  pub ended : (c : Commit) (b' : Board) → commit_call b c ≡ answered b' → Ended b c b'
  pub left : (c : Commit) (r : Refusal) → commit_call b c ≡ refused r → board_after b c ≡ b

-- of every board that was opened with some sheet and frame and went through any commits
abbrev pub BetweenCommits : Type 0
BetweenCommits = (s : Tasks) (b : Board) → open_call s ≡ answered b → (cs : List Commit) → Claimed (boards_after b cs)
