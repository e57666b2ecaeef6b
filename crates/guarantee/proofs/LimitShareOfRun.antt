-- Limit and share in the run of any trace: document 01's from those of the boards' processor.
use Prim.Native.Nat.{ℕ, suc, ◌-◌, ◌≤◌, ◌<◌}
use mathlib.Core.List.{List}
use native.Mathlib.Omega.{arith}
use Rattle.model.specs.Tasks.{Tasks, board_of, our_ticks, Release}
use Rattle.model.specs.Demand.{above_load}
use Rattle.model.specs.Claims.{Trace, used, left_over, is_task, is_above, Limit, Share}
use Rattle.model.proofs.SeriesLaws.{most_le}
use Rattle.theory.specs.Windows.{used_by, idle_by}
use Rattle.processor.specs.FinishBound.{Framed}
use Rattle.processor.proofs.BoardDemand.{above_board}
use Rattle.processor.specs.ProcessorClaims.{LimitOn, ShareOn}
use Rattle.guarantee.proofs.BoardRun.{clear}

module _ (s : Tasks) (v : Framed s) (k : ℕ → ℕ) (i : ℕ) (l : List Release) (tr : Trace s l) where
  -- "limit": from a tick at which its own jobs that may run before it are finished, a task runs at most load × σ(t) of the next t ticks
  pub limit : LimitOn (board_of s) s k i l → Limit s k i l
  unfolding used used_by
  limit h u t f = h u t (clear s v k l tr (is_task i) u f)

  -- "share": from a tick at which every job of the tasks above that may run before it is finished, they leave over what the demand bound says
  pub share : ShareOn (board_of s) s k i l → Share s k i l
  unfolding left_over idle_by
  share h u t f = most_le (λ n. our_ticks s u n - above_load s k i n) (suc t) (left_over s k l (is_above i) u t) enough
    where
      enough : (n : ℕ) → n < suc t → our_ticks s u n - above_load s k i n ≤ left_over s k l (is_above i) u t
      enough n g = omega (arith, h u t n (omega arith) (clear s v k l tr (is_above i) u f), above_board s k i n)
