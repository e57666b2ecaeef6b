use Prim.Native.Nat.{◌+◌, ◌*◌, ◌≤◌}
use mathlib.Core.Path.{◌≡◌, sym, ap, ap₂, ◌∙◌}
use mathlib.Core.Option.{some}
use native.Mathlib.Omega.{arith}
use lib.ListN.{get_or}
use Rattle.model.specs.Choice.{column}
use Rattle.model.specs.Demand.{window}
use Rattle.model.specs.Evaluations.{counted_at}
use Rattle.model.specs.Frame as model
use Rattle.model.proofs.FrameLaws.{Ruled}
use Rattle.frame.specs.Starts.{starts_of, start_at}
use Rattle.frame.specs.Reached.{Reached}
use Rattle.frame.specs.WindowColumns.{frame_in, supply_lent}
use Rattle.frame.proofs.ColumnLaws.{ruled_columns}
use Rattle.demand.specs.Seeking.{Counts}
use Rattle.demand.proofs.FlatColumnLaws.{loads_of}
use Rattle.demand.proofs.SeekLaws.{some_start}
use Rattle.demand.proofs.SeekColumnLaws.{periodic, own_load, own_high, seek_start, seek_next, seek_turn, seek_found, found_counted, seek_over, over_counted, tally_high}
use Rattle.demand.specs.Columns.{columns_lent}
use Rattle.verdict.specs.Walking.{tasks_in}
use Rattle.verdict.proofs.VerdictWalkLaws.{walk_start, says_horizon, says_late, says_fits, walk_on}
use Rattle.verdict.proofs.WalkableLaws.{counts_in, met_at}
use Rattle.verdict.proofs.walk.Goals.{Start, After-from-in-walk, At-walk, After-reach_from-x, Then-starts-n}
use Rattle.verdict.proofs.walk.Goals as goal

-- its frame is within the rules
ruled : (c : Start) → Ruled (frame_in (supply_lent c.args.supply.now))
ruled c = ruled_columns _ _ _ _ _ c.requires.supplies.columns

-- (q + 1) × E
own_is : (c : After-from-in-walk)
    → c.from.result * c.from-in-walk.result
    ≡ (c.walk.q + 1) * get_or c.args.columns.now.loads.now c.args.task 0
own_is c = ap₂ ◌*◌ c.from.ensures c.from-in-walk.ensures

-- it stays far below 64 bits
own_small : (c : After-from-in-walk) → c.from.result * c.from-in-walk.result ≤ 10000001000000
own_small c =
    own_high (frame_in (supply_lent c.args.supply.now)) _ _ _ _ 0 0 c.requires.walkable.search (ruled_columns _ _ _ _ _ c.requires.supplies.columns) _ _
    c.walk.invariant.q_high
    (own_is c)

-- the starts are those of the frame
starts_are : (c : At-walk) → c.starts-starts.result ≡ starts_of (frame_in (supply_lent c.args.supply.now))
starts_are c = c.starts-starts.ensures _ _ _

-- how much a number that is tried counts
counts : (c : At-walk) → Counts (tasks_in (supply_lent c.args.supply.now) (columns_lent c.args.columns.now) c.args.jitter c.args.deadline) c.tally_of-tally.result
counts c = counts_in (supply_lent c.args.supply.now) (columns_lent c.args.columns.now) c.args.jitter c.args.deadline _ c.tally_of-tally.ensures

-- the number of ticks that the demand just found takes from the start on
reached : (c : After-reach_from-x)
    → Reached (model.ours_in (frame_in (supply_lent c.args.supply.now)))
    (start_at (frame_in (supply_lent c.args.supply.now)) c.find.n)
    (c.from.result * c.from-in-walk.result + c.above_load.result)
    c.reach_from-x.result
reached c = rw c.find.invariant.2 at c.reach_from-x.ensures.reached

-- the largest over the starts is W(q)
found : (c : Then-starts-n)
    → window (tasks_in (supply_lent c.args.supply.now) (columns_lent c.args.columns.now) c.args.jitter c.args.deadline) (column c.args.keeps.now) c.args.task c.walk.q ≡ some c.max-w.result
found c =
    seek_found (frame_in (supply_lent c.args.supply.now)) _ _ _ _ _ _ c.requires.walkable.search (ruled_columns _ _ _ _ _ c.requires.supplies.columns) _ _ c.walk.invariant.q_high
    (ap₂ ◌*◌ c.from.ensures c.from-in-walk.ensures) _
    c.once_each-once.ensures _ _ _ _ _ _ _
    c.find.invariant.0.search
    (counts_in (supply_lent c.args.supply.now) (columns_lent c.args.columns.now) c.args.jitter c.args.deadline _ c.tally_of-tally.ensures)
    c.above_load.ensures
    c.if-t-gt10000000.false
    (rw c.find.invariant.2 at c.reach_from-x.ensures.reached)
    c.if-t-x.false
    (omega (arith, c.if-starts-n.true, c.starts-starts.ensures c.args.supply.now.ticks c.args.supply.now.first.now c.args.supply.now.size.now))
    ∙ ap some (sym c.max-w.ensures)

-- what has counted for it
counted : (c : Then-starts-n)
    → c.find.evaluations + c.tally_of-tally.result
    ≡ c.walk.evaluations
    + counted_at (tasks_in (supply_lent c.args.supply.now) (columns_lent c.args.columns.now) c.args.jitter c.args.deadline) (column c.args.keeps.now) c.args.task c.walk.q
counted c =
    omega (
      arith,
      c.find.invariant.0.counted,
      found_counted (frame_in (supply_lent c.args.supply.now)) _ _ _ _ _ _ c.requires.walkable.search (ruled_columns _ _ _ _ _ c.requires.supplies.columns) _ _ c.walk.invariant.q_high
          (ap₂ ◌*◌ c.from.ensures c.from-in-walk.ensures) _
          c.once_each-once.ensures _ _ _ _ _ _ _
          c.find.invariant.0.search
          (counts_in (supply_lent c.args.supply.now) (columns_lent c.args.columns.now) c.args.jitter c.args.deadline _ c.tally_of-tally.ensures)
          c.above_load.ensures
          c.if-t-gt10000000.false
          (rw c.find.invariant.2 at c.reach_from-x.ensures.reached)
          c.if-t-x.false
          (omega (arith, c.if-starts-n.true, c.starts-starts.ensures c.args.supply.now.ticks c.args.supply.now.first.now c.args.supply.now.size.now)),
    )

pub once_each-once-requires : goal.once_each-once-requires
once_each-once-requires c = loads_of _ _ _ _ c.requires.walkable.search.above

pub starts-starts-requires : goal.starts-starts-requires
starts-starts-requires c = tt

pub tally_of-tally-requires : goal.tally_of-tally-requires
tally_of-tally-requires c = tt

pub walk-init : goal.walk-init
walk-init c = walk_start _ _ _ (ruled (goal.at.walk-init c).Start)

pub from-requires : goal.from-requires
from-requires c = tt

pub from-requires-in-walk : goal.from-requires-in-walk
from-requires-in-walk c = tt

pub overflow_mul-own : goal.overflow_mul-own
overflow_mul-own c = omega (arith, own_small (goal.at.overflow_mul-own c).After-from-in-walk)

pub overflow_add-need : goal.overflow_add-need
overflow_add-need c = omega (arith, own_small (goal.at.overflow_add-need c).After-from-in-walk, c.once_each-once.ensures.high)

pub start_at-start-requires : goal.start_at-start-requires
start_at-start-requires c =
    (record {
      supplies = c.requires.supplies;
      n_bound = some_start _ (ruled (goal.at.start_at-start-requires c).Start);
      need_le_max_tick = omega (arith, own_small (goal.at.start_at-start-requires c).After-from-in-walk, c.once_each-once.ensures.high);
    })

pub find-init : goal.find-init
find-init c = (
  record {
    tries = 0;
    counted = omega arith;
    search =
        seek_start (frame_in (supply_lent c.args.supply.now)) _ _ _ _ _ _ c.requires.walkable.search (ruled (goal.at.find-init c).Start) _ _ c.walk.invariant.q_high
        (own_is (goal.at.find-init c).After-from-in-walk) _
        c.once_each-once.ensures _
        c.start_at-start.ensures.reach.reached;
  },
  c.start_at-start.ensures.begins,
  c.start_at-start.ensures.place,
)

pub overflow_add-evaluations : goal.overflow_add-evaluations
overflow_add-evaluations c =
    let head = c.walk.invariant in
    omega (
      arith,
      c.find.invariant.0.counted,
      c.find.invariant.0.search.few,
      head.small,
      head.q_high,
      c.tally_of-tally.ensures,
      tally_high (supply_lent c.args.supply.now).framed,
    )

pub above_load-requires : goal.above_load-requires
above_load-requires c =
    let may = c.requires in
    (record {
      columns = may.walkable.search.above;
      factored = may.factored;
      tried = record { low = c.find.invariant.0.search.low; high = c.if-t-gt10000000.false };
    })

pub overflow_add-d : goal.overflow_add-d
overflow_add-d c = omega (arith, own_small (goal.at.overflow_add-d c).After-from-in-walk, c.above_load.ensures.high)

pub reach_from-x-requires : goal.reach_from-x-requires
reach_from-x-requires c =
    (record {
      supplies = c.requires.supplies;
      begins = c.find.invariant.1;
      d_le_max_tick = omega (arith, own_small (goal.at.reach_from-x-requires c).After-from-in-walk, c.above_load.ensures.high);
    })

pub find-preserved-then-t-x : goal.find-preserved-then-t-x
find-preserved-then-t-x c =
    let so_far = c.find.invariant in (
      record {
        tries = so_far.0.tries + c.tally_of-tally.result;
        counted = omega (arith, so_far.0.counted);
        search =
            seek_next (frame_in (supply_lent c.args.supply.now)) _ _ _ _ _ _ c.requires.walkable.search (ruled (goal.at.find-preserved-then-t-x c).Start) _ _ c.walk.invariant.q_high
            (own_is (goal.at.find-preserved-then-t-x c).After-from-in-walk) _
            c.once_each-once.ensures _ _ _ _ _ _ _
            so_far.0.search
            (counts (goal.at.find-preserved-then-t-x c).At-walk)
            c.above_load.ensures
            c.if-t-gt10000000.false
            (reached (goal.at.find-preserved-then-t-x c).After-reach_from-x)
            c.if-t-x.true;
      },
      so_far.1,
      so_far.2,
    )

pub max-w-requires : goal.max-w-requires
max-w-requires c = tt

pub overflow_add-n : goal.overflow_add-n
overflow_add-n c = omega (arith, c.find.invariant.0.search.left, starts_are (goal.at.overflow_add-n c).At-walk)

pub start_at-next-requires : goal.start_at-next-requires
start_at-next-requires c =
    (record {
      supplies = c.requires.supplies;
      n_bound = omega (arith, c.if-starts-n.false, starts_are (goal.at.start_at-next-requires c).At-walk);
      need_le_max_tick = omega (arith, own_small (goal.at.start_at-next-requires c).After-from-in-walk, c.once_each-once.ensures.high);
    })

pub find-preserved : goal.find-preserved
find-preserved c =
    let so_far = c.find.invariant in (
      record {
        tries = so_far.0.tries + c.tally_of-tally.result;
        counted = omega (arith, so_far.0.counted);
        search =
            rw c.max-w.ensures
            (seek_turn (frame_in (supply_lent c.args.supply.now)) _ _ _ _ _ _ c.requires.walkable.search (ruled (goal.at.find-preserved c).Start) _ _ c.walk.invariant.q_high
            (own_is (goal.at.find-preserved c).After-from-in-walk) _
            c.once_each-once.ensures _ _ _ _ _ _ _
            so_far.0.search
            (counts (goal.at.find-preserved c).At-walk)
            c.above_load.ensures
            c.if-t-gt10000000.false
            (reached (goal.at.find-preserved c).After-reach_from-x)
            c.if-t-x.false
            (omega (arith, c.if-starts-n.false, starts_are (goal.at.find-preserved c).At-walk)) _
            c.start_at-next.ensures.reach.reached);
      },
      c.start_at-next.ensures.begins,
      c.start_at-next.ensures.place,
    )

pub overflow_cast-w : goal.overflow_cast-w
overflow_cast-w c =
    omega (
      arith,
      c.max-w.ensures,
      c.find.invariant.0.search.largest_high,
      c.if-t-gt10000000.false,
    )

pub response-r-requires : goal.response-r-requires
response-r-requires c =
    met_at _ _ _ _ _ _ _ _ _ _ _ c.requires.walkable (ruled (goal.at.response-r-requires c).Start) c.walk.invariant
    (found (goal.at.response-r-requires c).Then-starts-n)

pub better-best-requires : goal.better-best-requires
better-best-requires c = tt

pub gap-requires : goal.gap-requires
gap-requires c = tt

pub overflow_add-q-in-walk-2 : goal.overflow_add-q-in-walk-2
overflow_add-q-in-walk-2 c = omega (arith, c.walk.invariant.q_high)

pub walk-smaller : goal.walk-smaller
walk-smaller c = omega (arith, c.walk.invariant.q_high)

pub walk-preserved : goal.walk-preserved
walk-preserved c =
    let so_far = c.find.invariant.0 in
    rw c.better-best.ensures
    (walk_on _ _ _ _ _ _ (found (goal.at.walk-preserved c).Then-starts-n)
    c.response-r.ensures.is _ _ _
    c.walk.invariant
    (counted (goal.at.walk-preserved c).Then-starts-n)
    (omega (
      arith,
      so_far.counted,
      so_far.search.few,
      c.tally_of-tally.ensures,
      tally_high (supply_lent c.args.supply.now).framed,
    ))
    (ruled (goal.at.walk-preserved c).Start)
    (periodic (frame_in (supply_lent c.args.supply.now)) _ _ _ _ c.args.jitter c.args.deadline c.requires.walkable.search (ruled (goal.at.walk-preserved c).Start))
    (own_load (frame_in (supply_lent c.args.supply.now)) _ _ _ _ c.args.jitter c.args.deadline c.requires.walkable.search (ruled (goal.at.walk-preserved c).Start))
    c.response-r.ensures.low
    c.if-deadline-r.false
    (rw c.gap.ensures at c.if-w-gap.false))

pub returns-then-t-gt10000000 : goal.returns-then-t-gt10000000
returns-then-t-gt10000000 c =
    let so_far = c.find.invariant.0 in
    (says_horizon _ _ _ _ _ _ c.walk.invariant _
    (omega (
      arith,
      so_far.counted,
      over_counted (frame_in (supply_lent c.args.supply.now)) _ _ _ _ _ _ c.requires.walkable.search (ruled (goal.at.returns-then-t-gt10000000 c).Start) _ _ _ _ _ _ so_far.search
          (counts (goal.at.returns-then-t-gt10000000 c).At-walk) c.if-t-gt10000000.true,
    ))
    (seek_over (frame_in (supply_lent c.args.supply.now)) _ _ _ _ _ _ c.requires.walkable.search (ruled (goal.at.returns-then-t-gt10000000 c).Start) _ _ _ _ _ _ so_far.search
    (counts (goal.at.returns-then-t-gt10000000 c).At-walk) c.if-t-gt10000000.true))

pub returns-then-deadline-r : goal.returns-then-deadline-r
returns-then-deadline-r c =
    (says_late _ _ _ _ _ _ (found (goal.at.returns-then-deadline-r c).Then-starts-n)
    c.response-r.ensures.is _ _ _
    c.walk.invariant
    (counted (goal.at.returns-then-deadline-r c).Then-starts-n)
    c.if-deadline-r.true)

pub returns-then-w-gap : goal.returns-then-w-gap
returns-then-w-gap c =
    rw c.better-best.ensures
    ((says_fits _ _ _ _ _ _ (found (goal.at.returns-then-w-gap c).Then-starts-n)
    c.response-r.ensures.is _ _ _
    c.walk.invariant
    (counted (goal.at.returns-then-w-gap c).Then-starts-n)
    c.response-r.ensures.low
    c.if-deadline-r.false
    (rw c.gap.ensures at c.if-w-gap.true)))
