-- Demand 3: limit and share hold in the run of every trace, a verdict of "fits" is kept by every trace, and one of "late" is shown by a trace.
use Prim.Native.Nat.{ℕ}
use mathlib.Core.List.{List}
use Rattle.model.specs.Tasks.{board_of, Release}
use Rattle.model.specs.Gap.{Legal}
use Rattle.model.specs.Claims.{Trace, Missed, Demand3}
use Rattle.response.specs.VerdictSays.{Walked, Missing}
use Rattle.response.proofs.VerdictLaws.{fits_says, late_says}
use Rattle.processor.proofs.BoardDemand.{regular_of}
use Rattle.processor.specs.ProcessorClaims.{MetOn, DemandOn}
use Rattle.guarantee.specs.Demand3.{Demand3Holds}
use Rattle.guarantee.proofs.OnProcessor.{demand_on_lem}
use Rattle.guarantee.proofs.LimitShareOfRun.{limit, share}
use Rattle.guarantee.specs.RunBounds.{window_of}
use Rattle.guarantee.proofs.FitsOfVerdict.{walk_of, on_time}
use Rattle.guarantee.proofs.LateOfVerdict.{late_of_lem, late_end, missed}

-- demand 3 on the boards' processor: its pickup, load E + S and the ticks of the frame's windows
pub demand3 : Demand3Holds
unfolding late_of_lem
demand3 s v k kept i h =
    go (demand_on_lem (board_of s) (regular_of s) s (λ j g. (v.in_range_lem j g).period_low) (λ j g. (v.in_range_lem j g).cost_low) k kept i h)
  where
    kept_by_lem
        : DemandOn (board_of s) (regular_of s) s k i → Walked s k i → (l : List Release) → Trace s l → Legal s l i
        → MetOn (board_of s) s k i l
    kept_by_lem d n = d.if_fits n.last (window_of s k i) (walk_of s v.framed k i n)

    found : DemandOn (board_of s) (regular_of s) s k i → (q : ℕ) → Missing s k i q → Missed s k i
    found d q n = missed s v.framed k i _ (late_end s v.framed k i (v.in_range_lem i h) q n) (d.if_late (late_of_lem s v.framed k i q n))

    go : DemandOn (board_of s) (regular_of s) s k i → Demand3 s k i
    go d = record {
      limit = λ l tr. limit s v.framed k i l tr (d.limit l tr);
      share = λ l tr. share s v.framed k i l tr (d.share l tr);
      if_fits = λ r q e l tr legal. on_time s v.framed k i l tr (kept_by_lem d (fits_says s k i r q e) l tr legal);
      if_late = λ q r e. found d q (late_says s k i q r e);
    }
