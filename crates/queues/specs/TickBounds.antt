-- How large the ticks of a run are: the statement; proofs/RunCallLaws.antt proves it (`run_bounds`).
use Rattle.std.specs.Prelude.{ℕ, ◌≤◌, ◌<◌, ◌≡◌, List, length}
use Rattle.std.proofs.Math.Option.{none}
use Rattle.model.specs.Tasks.{Tasks, Release, board_of}
use Rattle.model.specs.Choice.{column}
use Rattle.model.specs.Ready.{ready_at}
use Rattle.model.specs.Run.{finish_at}
use Rattle.model.specs.Checks.{refusal_of}
use Rattle.model.specs.Calls.{releases_of, run_inputs}
use Rattle.shaper.specs.ReadyTicks.{max_ready}
use Rattle.queues.specs.Queues.{finish_limit, max_finish}

-- the ticks of the release at p of a list, with kept jitters k: bounds of its ready tick, of its finish by the ticks of the frame, and of its finish with any
-- frame. Its response, finish − release, is not over its finish
pub record Bounded (s : Tasks) (k : ℕ → ℕ) (l : List Release) (p : ℕ) : Type 0 where
  pub ready_high : ready_at s k l p ≤ max_ready
  pub finish_high : finish_at s k l p ≤ finish_limit (board_of s).turn
  pub finish_far : finish_at s k l p ≤ max_finish

-- "held in 64 bits, in the ready, finish and response columns too" (document 02, R-3)
pub record TickBounds : Type 0 where
  -- every list that passes the checks of a run: no ready tick is over 1,000,001,023,000,000 and no finish over 1,010,240,000,000,001, or, without a frame, over
  -- 1,000,001,024,000,001
  pub bounded
      : (s : Tasks) (kept : List ℕ) (n : ℕ) (task tick cost ready finish : List ℕ)
      → refusal_of (run_inputs s kept n task tick cost ready finish) ≡ none
      → (p : ℕ) → p < length (releases_of n task tick cost) → Bounded s (column kept) (releases_of n task tick cost) p
  -- both are below 2^64, so no tick wraps
  pub fits : (max_ready ≤ max_finish) × (max_finish < 18446744073709551616)
