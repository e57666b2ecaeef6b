-- "late": the verdict's late q is one of the boards' processor, and a job that is not finished D ticks after its release is late.
use Prim.Native.Nat.{ℕ, suc, ◌+◌, ◌*◌, ◌/◌, ◌≤◌, ◌<◌}
use mathlib.Core.Path.{refl}
use mathlib.Core.Option.{Option, some, none}
use native.Mathlib.Nat.{lt-div-mul-add, div-mul-le_self}
use native.Mathlib.Omega.{arith}
use Rattle.model.specs.Limits.{max_short_tick, max_frame}
use Rattle.model.specs.Frame.{Frame, turn_of}
use Rattle.model.specs.Processor.{pickup}
use Rattle.model.specs.Tasks.{Tasks, board_of, release_at, InRange}
use Rattle.model.specs.Run.{response_at}
use Rattle.model.specs.Claims.{Missed}
use Rattle.model.proofs.SeriesLaws.{le_by}
use Rattle.model.proofs.FrameLaws.{Ruled, turn_low, supply_turns}
use Rattle.response.proofs.BoundLaws.{is_late_lem}
use Rattle.response.proofs.WindowLaws.{Window, window_some}
use Rattle.response.specs.VerdictSays.{Missing}
use Rattle.processor.specs.FinishBound.{Framed}
use Rattle.processor.proofs.BoardDemand.{regular_of, pickup_board, demand_board}
use Rattle.processor.specs.ProcessorClaims.{LateOn, MissedOn}
use Rattle.guarantee.proofs.BoardRun.{none_left}

-- a turn is no longer than a frame may be
turn_high : (o : Option Frame) → Ruled o → turn_of o ≤ max_frame
turn_high none h = omega arith
turn_high (some f) h = (h f refl).ticks_high

module _ (s : Tasks) (v : Framed s) (k : ℕ → ℕ) (i : ℕ) where
  -- W(q) of a late q
  pub window_of_lem : (q : ℕ) (d : Missing s k i q) → Window s k i q d.w
  window_of_lem q d = window_some s k i v q d.w d.is

  -- the ticks before the window that the early own releases take
  abbrev room : ℕ
  room = pickup + s.period i + s.jitter i

  -- where the window begins: at the place in the frame from which the demand is met last, so many turns later that there is that room
  pub late_from : (q : ℕ) → Missing s k i q → ℕ
  late_from q d = (window_of_lem q d).worst + suc (room / (board_of s).turn) * (board_of s).turn

  -- there is
  pub from_low : (q : ℕ) (d : Missing s k i q) → room ≤ late_from q d
  unfolding late_from
  from_low q d =
      let low : room < room / (board_of s).turn * (board_of s).turn + (board_of s).turn = lt-div-mul-add (turn_low s.frame v) in
      omega arith

  -- and it is less than two turns more
  from_high : (q : ℕ) (d : Missing s k i q) → late_from q d ≤ room + 2 * max_frame
  unfolding late_from
  from_high q d =
      omega (arith, div-mul-le_self room (board_of s).turn, turn_high s.frame v, (window_of_lem q d).in_turn)

  -- the late q of a verdict
  unfoldable pub late_of_lem : (q : ℕ) → Missing s k i q → LateOn (board_of s) (regular_of s) s k i
  unfolding late_from
  late_of_lem q d = record {
    q = q;
    w = d.w;
    some_tick = (window_of_lem q d).low;
    from = late_from q d;
    room = omega (arith, from_low q d, pickup_board s.charge s.frame);
    unmet = λ t a b.
        omega (
          arith,
          (window_of_lem q d).least t a b,
          demand_board s k i q t,
          supply_turns s.frame (window_of_lem q d).worst (suc (room / (board_of s).turn)) t,
        );
    over = omega (arith, pickup_board s.charge s.frame, is_late_lem s k i q d.w d.over);
  }

  -- the last tick of its list is within document 01's limit
  pub late_end
      : InRange (s.period i) (s.jitter i) (s.cost i) (s.deadline i) → (q : ℕ) (d : Missing s k i q)
      → late_from q d + d.w + s.jitter i + s.period i + q * s.period i ≤ max_short_tick
  late_end r q d =
      omega (arith, from_high q d, r.period_high, r.jitter_high, (window_of_lem q d).high, is_late_lem s k i q d.w d.over)

  -- a job that is not finished D ticks after its release is late
  pub missed : (end : ℕ) → end ≤ max_short_tick → MissedOn (board_of s) s k i end → Missed s k i
  unfolding response_at
  missed end h d = record {
    list = d.list;
    trace = d.trace;
    legal = d.legal;
    ticks = λ p g. omega (arith, d.ticks p g);
    job = d.job;
    in_list = d.in_list;
    own_job = d.own_job;
    is_late_lem = rw d.own_job (le_by _ _ wrong);
  }
    where
      wrong : response_at s k d.list d.job < suc (s.deadline i) → ⊥
      wrong g = d.not_done (none_left s v k d.list d.trace d.job d.in_list ((release_at d.list d.job).tick + s.deadline i) (omega arith))
