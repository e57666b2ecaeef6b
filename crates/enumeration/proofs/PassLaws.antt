-- A small trace of a sheet within the limits passes the trace check: proves SmallPasses of specs/EveryTrace.antt.
use Prim.Native.Nat.{ℕ, suc}
use mathlib.Core.Logic.{inl, ⊎_elim}
use mathlib.Core.List.{List}
use native.Mathlib.Omega.{arith}
use Rattle.model.specs.Tasks.{Tasks, Release, release_at, Valid}
use Rattle.model.specs.Claims.{Trace}
use Rattle.model.proofs.SeriesLaws.{le_or_lt}
use Rattle.trace.proofs.LegalCheck.{trace_check}
use Rattle.enumeration.specs.EveryTrace.{Small, SmallPasses}

-- full costs of tasks of the sheet, and ticks that never fall
small_trace : (s : Tasks) (n t : ℕ) (l : List Release) → Valid s → Small s n t l → Trace s l
small_trace s n t l v w =
    record {
      sound = λ p h. record {
        known = w.known p h;
        cost_low = omega (arith, w.full p h, (v.in_range_lem (release_at l p).task (w.known p h)).cost_low);
        cost_high = omega (arith, w.full p h);
      };
      rising = λ p h. ⊎_elim (λ g. g) (λ g. absurd (w.ordered p h (inl g))) (le_or_lt (release_at l p).tick (release_at l (suc p)).tick);
    }

-- each small trace passes the trace check
pub small_passes : SmallPasses
small_passes s n t l v w = let tr = small_trace s n t l v w in (tr, trace_check s l tr w.legal)
