use native.Mathlib.Omega.{arith}
use Rattle.frame.proofs.ColumnLaws.{ruled_columns}
use Rattle.demand.proofs.SeekLaws.{some_start}
use Rattle.keeping.proofs.WindowOfLaws.{search_start, search_over, search_within, search_next, search_turn}
use Rattle.keeping.proofs.window_of.Goals as goal

pub overflow_add-need : goal.overflow_add-need
overflow_add-need c = omega (arith, c.requires.searched.once_is.high, c.product-own.ensures.small)

pub start_at-begin-requires : goal.start_at-begin-requires
start_at-begin-requires c =
    (record {
      supplies = c.requires.supplies;
      n_bound = some_start _ (ruled_columns _ _ _ _ _ c.requires.supplies.columns);
      need_le_max_tick = omega (arith, c.requires.searched.once_is.high, c.product-own.ensures.small);
    })

pub loop-t-init : goal.loop-t-init
loop-t-init c =
    search_start _ _ _ _ _ _ _ _ _ c.requires.searched c.requires.supplies c.product-own.ensures
    (c.starts-starts.ensures _ _ _) c.tally_of-tally.ensures _ c.start_at-begin.ensures

pub overflow_add-tries : goal.overflow_add-tries
overflow_add-tries c = omega (arith, c.loop-t.invariant.list.few, c.loop-t.invariant.tally_few)

pub returns-then-t-gt10000000 : goal.returns-then-t-gt10000000
returns-then-t-gt10000000 c = search_over _ _ _ _ _ _ _ _ _ _ _ _ _ _ _ c.loop-t.invariant c.if-t-gt10000000.true

pub above_load-requires : goal.above_load-requires
above_load-requires c =
    let head = c.loop-t.invariant in
    (record {
      columns = head.may.columns.above;
      factored = c.requires.factored;
      tried = record { low = omega (arith, head.list.low); high = c.if-t-gt10000000.false };
    })

pub overflow_add-d : goal.overflow_add-d
overflow_add-d c = omega (arith, c.loop-t.invariant.own_small, c.above_load.ensures.high)

pub reach_from-x-requires : goal.reach_from-x-requires
reach_from-x-requires c =
    (record {
      supplies = c.requires.supplies;
      begins = c.loop-t.invariant.begins;
      d_le_max_tick = omega (arith, c.loop-t.invariant.own_small, c.above_load.ensures.high);
    })

pub loop-t-smaller-then-t-x : goal.loop-t-smaller-then-t-x
loop-t-smaller-then-t-x c = omega (arith, c.if-t-x.true, c.if-t-gt10000000.false)

pub loop-t-preserved-then-t-x : goal.loop-t-preserved-then-t-x
loop-t-preserved-then-t-x c =
    search_next _ _ _ _ _ _ _ _ _ _ _ _ _ _ _ c.loop-t.invariant _ _ c.above_load.ensures c.if-t-gt10000000.false
    c.reach_from-x.ensures c.if-t-x.true

pub overflow_add-k : goal.overflow_add-k
overflow_add-k c =
    let head = c.loop-t.invariant in
    omega (arith, head.list.left, head.starts_is)

pub overflow_cast-result : goal.overflow_cast-result
overflow_cast-result c = omega (arith, c.max-w.ensures, c.if-t-gt10000000.false, c.loop-t.invariant.list.largest_high)

pub returns-then-starts-k : goal.returns-then-starts-k
returns-then-starts-k c =
    search_within _ _ _ _ _ _ _ _ _ _ _ _ _ _ _ c.loop-t.invariant _ _ c.above_load.ensures c.if-t-gt10000000.false
    c.reach_from-x.ensures _ c.max-w.ensures c.if-t-x.false c.if-starts-k.true

pub start_at-next-requires : goal.start_at-next-requires
start_at-next-requires c =
    (record {
      supplies = c.requires.supplies;
      n_bound = omega (arith, c.loop-t.invariant.starts_is, c.if-starts-k.false);
      need_le_max_tick = omega (arith, c.requires.searched.once_is.high, c.loop-t.invariant.own_small);
    })

pub loop-t-smaller : goal.loop-t-smaller
loop-t-smaller c = omega (arith, c.if-starts-k.false)

pub loop-t-preserved : goal.loop-t-preserved
loop-t-preserved c =
    search_turn _ _ _ _ _ _ _ _ _ _ _ _ _ _ _ c.loop-t.invariant _ _ c.above_load.ensures c.if-t-gt10000000.false
    c.reach_from-x.ensures _ c.max-w.ensures c.if-t-x.false c.if-starts-k.false _ c.start_at-next.ensures
