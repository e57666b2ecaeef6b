-- On any processor: where R(q) > D there is a list in whose run a job of the task is late.
use Prim.Native.Nat.{ℕ, ◌+◌, ◌-◌, ◌*◌, ◌/◌, ◌≤◌, ◌<◌}
use mathlib.Core.Path.{◌≡◌, refl}
use mathlib.Core.Logic.{dite}
use native.Mathlib.Omega.{arith}
use native.Mathlib.Decide.{dec_le}
use borrow.Author.Tests.{le-leb, lt-leb}
use native.Mathlib.Nat.{lt-div-mul-add, div-mul-le_self}
use Rattle.model.specs.Gap.{gap}
use Rattle.shaper.proofs.GapLaws.{gap_le}
use Rattle.trace.proofs.PositionLaws.{Held}
use Rattle.processor.specs.ProcessorClaims.{MissedOn}
use Rattle.witness.specs.LateList.{lead_of, lead_in, base_of, first_own, late_list, LateShown}
use Rattle.witness.proofs.ScenarioLaws.{scenario_trace, scenario_legal, scenario_ticks, last_job, last_release}
use Rattle.witness.proofs.LateRun.{not_finished}

-- with n own jobs before the window the release of own job n + q and the start of the window lie apart by what R(q) adds to W(q)
pub record Lead (P J K q n : ℕ) : Type 0 where
  pub small : n * P ≤ J + P
  pub reached : gap P J (n + q) + (J - (q * P + K)) ≤ gap P K n + (q * P - J)

lead : (P J K q : ℕ) → 1 ≤ P → Lead P J K q (lead_of P J K q)
unfolding gap lead_of
lead P J K q p = dite (dec_le J (q * P + K)) none_before some_before
  where
    none_before : J ≤ q * P + K → Lead P J K q (lead_of P J K q)
    none_before a = rw (lead_of, le-leb J (q * P + K) a) (record { small = omega arith; reached = omega arith })

    some_before : (J ≤ q * P + K → ⊥) → Lead P J K q (lead_of P J K q)
    some_before a =
        let low : J < J / P * P + P = lt-div-mul-add p in
        let high : J / P * P ≤ J = div-mul-le_self J P in
        rw (lead_of, lt-leb J (q * P + K) (omega arith)) (record { small = omega arith; reached = omega arith })

pub missed_on : LateShown
missed_on m r s periods costs k kept i hi d = (late, refl)
  where
    b : Lead (s.period i) (s.jitter i) (k i) d.q (lead_in s k i d.q)
    b = lead (s.period i) (s.jitter i) (k i) d.q (periods i hi)

    base : ℕ
    base = base_of r.pickup d.from

    first : ℕ
    first = first_own s k i base (lead_in s k i d.q)

    -- the place of the last own job
    last : ℕ
    last = lead_in s k i d.q + d.q

    -- its position in the list
    h : Held (late_list r.pickup s k i d.q d.w d.from) i last
    h = last_job s k i base first last d.w

    above_from : base + r.pickup ≡ d.from
    above_from = omega (arith, d.room)

    own_from : first + gap (s.period i) (k i) (lead_in s k i d.q) + r.pickup ≡ d.from
    own_from = omega (arith, d.room, b.small, gap_le (s.period i) (k i) (lead_in s k i d.q))

    late : MissedOn m s k i (d.from + d.w + s.jitter i + s.period i + d.q * s.period i)
    late = record {
      list = late_list r.pickup s k i d.q d.w d.from;
      trace = scenario_trace s k i base first last d.w costs hi;
      legal = scenario_legal s k i base first last d.w kept;
      ticks = scenario_ticks s k i base first last d.w (λ j g. periods j (omega arith)) _ (omega (arith, above_from)) (omega (arith, own_from, b.small));
      job = h.at;
      in_list = h.inside;
      own_job = h.of_task;
      not_done =
          not_finished m r s k i base first (lead_in s k i d.q) d.q d.w d.from periods costs kept hi above_from own_from d.some_tick d.unmet h _
          (omega (arith, d.over, b.reached, last_release s k i base first last d.w h, own_from));
    }
