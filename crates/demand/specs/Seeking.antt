-- The search for W(q), start by start: what holds at its head. Without a frame it is the search by the list of t.
use Rattle.std.specs.Prelude.{ℕ, ◌≤◌, ◌<◌, ◌≡◌, Bool, true, false, List}
use Rattle.std.proofs.Math.Option.{some, none}
use Rattle.model.specs.Limits.{horizon_tick}
use Rattle.model.specs.Frame.{Frame, ours_in}
use Rattle.model.specs.Tasks.{Tasks, our_ticks}
use Rattle.model.specs.Demand.{demand, window_from, largest}
use Rattle.frame.specs.Starts.{starts_of, start_at}
use Rattle.frame.specs.Reached.{IsReach}
use Rattle.frame.specs.declared.Supply.{Supply}
use Rattle.frame.specs.WindowColumns.{column_frame, Begins}
use Rattle.demand.specs.declared.Start.{Start}
use Rattle.demand.specs.Searching.{Search}

-- how much a number that is tried counts: 1, and 0 with a frame
pub record Counts (s : Tasks) (c : ℕ) : Type 0 where
  pub plain : s.frame ≡ none → c ≡ 1
  pub framed : (f : Frame) → s.frame ≡ some f → c ≡ 0

-- as the code has it
abbrev pub tally_of : Bool → ℕ
tally_of true = 0
tally_of false = 1

-- start n of a frame in columns, and the least number of ticks from it among which d are ours
pub record Started (framed : Bool) (ticks count : ℕ) (first size : List ℕ) (n d : ℕ) (r : Start) : Type 0 where
  pub begins : Begins framed ticks count first size r.at r.before
  pub place : r.at ≡ start_at (column_frame framed ticks count first size) n
  pub reach : IsReach (ours_in (column_frame framed ticks count first size)) (start_at (column_frame framed ticks count first size) n) d r.t

-- the same of what is worked out for a frame
abbrev pub StartedIn : Supply → ℕ → ℕ → Start → Type 0
StartedIn s n d r = Started s.framed s.ticks s.count s.first s.size n d r

-- n starts are done, of which w is the largest W; the next number tried from start n is t, and every number below is too short; m numbers have counted
pub record Seeking (s : Tasks) (k : ℕ → ℕ) (i q n w m t : ℕ) : Type 0 where
  pub so_far : largest (λ x. window_from s k i q (start_at s.frame x)) n ≡ some w
  pub largest_high : w ≤ horizon_tick
  pub left : n < starts_of s.frame
  pub low : 1 ≤ t
  pub short : (x : ℕ) → 1 ≤ x → x < t → our_ticks s (start_at s.frame n) x < demand s k i q x
  pub few : m ≤ horizon_tick
  pub list : s.frame ≡ none → Search s k i q m t
  pub uncounted : (f : Frame) → s.frame ≡ some f → m ≡ 0
