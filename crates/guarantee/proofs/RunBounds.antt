-- The bounds of demand 3 in numbers.
use Prim.Native.Nat.{ℕ, suc, ◌+◌, ◌-◌, ◌≤◌, ◌<◌}
use native.Mathlib.Omega.{arith}
use lib.ListN.{length}
use Rattle.model.specs.Tasks.{board_of, our_ticks}
use Rattle.model.specs.Demand.{above_load}
use Rattle.model.proofs.SeriesLaws.{most_ge}
use Rattle.response.specs.VerdictSays.{Walked}
use Rattle.processor.proofs.BoardDemand.{regular_of}
use Rattle.processor.proofs.FitsOnProcessor.{DoneOn, done_on}
use Rattle.guarantee.proofs.BoardRun.{finished_by}
use Rattle.guarantee.specs.RunBounds.{window_of, InWindow, TaskBoundsHold}
use Rattle.guarantee.proofs.FitsOfVerdict.{walk_of}
use Rattle.guarantee.proofs.Demand3.{demand3}

pub task_bounds : TaskBoundsHold
task_bounds s v k kept i h l tr = record {
  limit = λ u t f. omega (arith, (demand3 s v k kept i h).limit l tr u t f);
  share = λ u t n g f.
      omega (arith, most_ge (λ m. our_ticks s u m - above_load s k i m) (suc t) n (omega arith), (demand3 s v k kept i h).share l tr u t f);
  window = λ d p g e. go d p g (done_on (board_of s) (regular_of s) s k i periods d.last (window_of s k i) (walk_of s v.framed k i d) l tr p g e);
}
  where
    periods : (j : ℕ) → j < i → 1 ≤ s.period j
    periods j n = (v.in_range_lem j (omega arith)).period_low

    go : (d : Walked s k i) (p : ℕ) → p < length l → DoneOn (board_of s) s k i l d.last (window_of s k i) p → InWindow s k i l d.last p
    go d p g c = record {
      q = c.q;
      q_le = c.q_le;
      lead = c.lead;
      lead_le = c.lead_le;
      lead_own = c.lead_own;
      places = c.places;
      from = c.from;
      from_le = c.from_le;
      finished = omega (arith, finished_by s v.framed k l tr p g (c.from + window_of s k i c.q) c.done);
    }
