-- "fits": the verdict's walk is one of the boards' processor, and a job that is finished D ticks after its release is not late.
use Prim.Native.Nat.{ℕ, suc, ◌+◌, ◌-◌, ◌*◌, ◌≤◌, ◌<◌}
use mathlib.Core.Path.{◌≡◌}
use mathlib.Core.Option.{some}
use mathlib.Core.List.{List}
use native.Mathlib.Omega.{arith}
use Rattle.model.specs.Tasks.{Tasks, board_of, Release, release_at}
use Rattle.model.specs.Gap.{gap}
use Rattle.model.specs.Run.{response_at}
use Rattle.model.specs.Demand.{window}
use Rattle.model.specs.Claims.{Trace, OnTime}
use Rattle.response.proofs.BoundLaws.{not_late}
use Rattle.response.proofs.WindowLaws.{Window, window_some}
use Rattle.response.specs.VerdictSays.{Passed, Walked}
use Rattle.processor.specs.FinishBound.{Framed}
use Rattle.processor.proofs.BoardDemand.{regular_of, pickup_board, demand_board}
use Rattle.processor.specs.ProcessorDemand.{supply_on, demand_on}
use Rattle.processor.specs.ProcessorClaims.{WalkOn, MetOn}
use Rattle.guarantee.proofs.BoardRun.{finished_by}
use Rattle.guarantee.specs.RunBounds.{window_of}

window_is : (s : Tasks) (k : ℕ → ℕ) (i q w : ℕ) → window s k i q ≡ some w → window_of s k i q ≡ w
unfolding window_of
window_is s k i q w h = rw (window_of, h)

module _ (s : Tasks) (v : Framed s) (k : ℕ → ℕ) (i : ℕ) where
  met : (q u : ℕ) → Passed s k i q → (t : ℕ) × (1 ≤ t) × (t ≤ window_of s k i q) × (demand_on (board_of s) s k i q t ≤ supply_on (board_of s) u t)
  met q u p =
      let g : Window s k i q p.w = window_some s k i v q p.w p.is in
      let m = g.met u in
      (m.0, m.1, omega (arith, m.2, window_is s k i q p.w p.is), omega (arith, m.3, demand_board s k i q m.0))

  in_time
      : (q : ℕ) → Passed s k i q
      → window_of s k i q + (regular_of s).pickup + (s.jitter i - (q * s.period i + k i)) ≤ s.deadline i + (q * s.period i - s.jitter i)
  in_time q p = omega (arith, pickup_board s.charge s.frame, window_is s k i q p.w p.is, not_late s k i q p.w p.in_time)

  -- the walk of a verdict that is "fits"
  pub walk_of : (d : Walked s k i) → WalkOn (board_of s) (regular_of s) s k i d.last (window_of s k i)
  walk_of d = record {
    met = λ q u g. met q u (d.passed q g);
    in_time = λ q g. in_time q (d.passed q g);
    ends = ends (d.passed d.last (omega arith));
  }
    where
      ends : Passed s k i d.last → window_of s k i d.last ≤ gap (s.period i) (k i) (suc d.last)
      ends p = rw (window_is s k i d.last p.w p.is) (d.ends p.w p.is)

  -- jobs that are finished D ticks after their release are not late
  pub on_time : (l : List Release) → Trace s l → MetOn (board_of s) s k i l → OnTime s k i l
  unfolding response_at
  on_time l tr h p g e late =
      let a : s.deadline i < response_at s k l p = rw e at late in
      omega (arith, finished_by s v k l tr p g ((release_at l p).tick + s.deadline i) (h p g e))
