-- A write that is not refused has room for the tasks, the releases and the end record, one after the other.
use Prim.Native.Nat.{◌+◌, ◌≤◌}
use mathlib.Core.Path.{◌≡◌, ◌∙◌}
use native.Mathlib.Omega.{arith}
use lib.ListN.{length, length-set}
use Rattle.model.specs.Calls.{releases_of}
use Rattle.taskset.specs.TaskSet.{view_of}
use Rattle.refusal.proofs.PassedOn.{passed}
use Rattle.fileformat.specs.FileCalls.{sheet_bytes, list_bytes}
use Rattle.releases.proofs.ReleaseLaws.{length_releases}
use Rattle.fileformat.proofs.WidthLaws.{list_high}
use Rattle.fileformat.proofs.TaskSizeLaws.{tasks_bytes_high}
use Rattle.fileformat.proofs.RoundTrips.{charge_bytes_high}
use Rattle.writer.specs.Writer.{part}
use Rattle.writer.proofs.StoreLaws.{stored_long}
use Rattle.writer.proofs.PartLaws.{bytes_split, shorts_alike, longs_alike}
use Rattle.writer.proofs.WriteLaws.{WriteFits, write_fits, stored_both, write_refused, write_done}
use Rattle.writer.proofs.write.Goals.{In_ok-check_write, After-short_count-shorts, After-put_part-middle, After-put_part-end}
use Rattle.writer.proofs.write.Goals as goal

-- the check that passed
fits
    : (c : In_ok-check_write) → let a =
    c.args in WriteFits a.s a.list.now.count a.list.now.task.now a.list.now.tick.now a.list.now.cost.now (length a.out.now)
fits c = write_fits _ _ _ _ _ _ c.in_ok-check_write.ensures

in_array : (c : In_ok-check_write) → c.args.s.count ≤ length c.args.s.tasks
in_array c =
    let e : length c.args.s.tasks ≡ 32 = c.well_formed.0.1.1.0.1.0.1 in
    omega (arith, (fits c).few_tasks)

-- the bytes of both parts
split
    : (c : After-short_count-shorts) → let a = c.args in
    let k = c.short_count-shorts.result in
    list_bytes (part 0 k a.list.now.task.now a.list.now.tick.now a.list.now.cost.now) + list_bytes (part k a.list.now.count a.list.now.task.now a.list.now.tick.now a.list.now.cost.now)
    ≡ list_bytes (releases_of a.list.now.count a.list.now.task.now a.list.now.tick.now a.list.now.cost.now)
split c =
    let a = c.args in
    bytes_split a.list.now.task.now a.list.now.tick.now a.list.now.cost.now c.short_count-shorts.result a.list.now.count c.short_count-shorts.ensures.within

-- where the releases begin
sized : (c : After-short_count-shorts) → c.put_sheet-start.result ≡ sheet_bytes (view_of c.args.s)
sized c = c.put_sheet-start.ensures.end

-- where the file ends
end_is
    : (c : After-put_part-end) → let a = c.args in
    c.put_part-end.result ≡ sheet_bytes (view_of a.s) + list_bytes (releases_of a.list.now.count a.list.now.task.now a.list.now.tick.now a.list.now.cost.now)
end_is c =
    let a = c.args in
    let s = bytes_split a.list.now.task.now a.list.now.tick.now a.list.now.cost.now c.short_count-shorts.result a.list.now.count c.short_count-shorts.ensures.within in
    omega (arith, c.put_part-end.ensures.end, c.put_part-middle.ensures.end, c.put_sheet-start.ensures.end, s)

-- the lent bytes are as many as before
long_one : (c : After-put_part-middle) → length c.put_part-middle.new.out ≡ length c.args.out.now
long_one c = stored_long _ _ _ _ c.put_part-middle.ensures.bytes ∙ stored_long _ _ _ _ c.put_sheet-start.ensures.bytes

long : (c : After-put_part-end) → length c.put_part-end.new.out ≡ length c.args.out.now
long c =
    stored_long _ _ _ _ c.put_part-end.ensures.bytes
    ∙ stored_long _ _ _ _ c.put_part-middle.ensures.bytes
    ∙ stored_long _ _ _ _ c.put_sheet-start.ensures.bytes

pub returns-in_err-check_write : goal.returns-in_err-check_write
returns-in_err-check_write c =
    rw (passed _ _ c.from_residual.ensures.1) (write_refused _ _ _ _ _ _ _ c.in_err-check_write.ensures)

pub put_sheet-start-requires : goal.put_sheet-start-requires
put_sheet-start-requires c =
    let p = (goal.at.put_sheet-start-requires c).In_ok-check_write in
    let f = fits p in
    (f.few_tasks, omega (arith, f.bytes), in_array p)

pub short_count-shorts-requires : goal.short_count-shorts-requires
short_count-shorts-requires c = (fits (goal.at.short_count-shorts-requires c).In_ok-check_write).columns.tick_long

pub put_part-middle-requires : goal.put_part-middle-requires
put_part-middle-requires c =
    let p = goal.at.put_part-middle-requires c in
    let f = fits p.In_ok-check_write in
    let w = c.short_count-shorts.ensures.within in
    let b = p.After-short_count-shorts in (
      omega (arith, f.bytes, split b, sized b, stored_long _ _ _ _ c.put_sheet-start.ensures.bytes),
      omega arith,
      omega (arith, w, f.columns.task_long),
      omega (arith, w, f.columns.tick_long),
      omega (arith, w, f.columns.cost_long),
      shorts_alike _ _ _ f.rising c.short_count-shorts.ensures,
    )

pub put_part-end-requires : goal.put_part-end-requires
put_part-end-requires c =
    let p = goal.at.put_part-end-requires c in
    let f = fits p.In_ok-check_write in
    let b = p.After-short_count-shorts in (
      omega (arith, f.bytes, split b, c.put_part-middle.ensures.end, sized b, long_one p.After-put_part-middle),
      c.short_count-shorts.ensures.within,
      f.columns.task_long,
      f.columns.tick_long,
      f.columns.cost_long,
      longs_alike _ _ _ c.short_count-shorts.ensures,
    )

pub bounds-out-end : goal.bounds-out-end
bounds-out-end c =
    let p = goal.at.bounds-out-end c in
    let e = p.After-put_part-end in
    omega (arith, end_is e, (fits p.In_ok-check_write).bytes, long e)

pub overflow_add-result : goal.overflow_add-result
overflow_add-result c =
    let p = goal.at.overflow_add-result c in
    let f = fits p.In_ok-check_write in
    let a = c.args in
    let l = releases_of a.list.now.count a.list.now.task.now a.list.now.tick.now a.list.now.cost.now in
    omega (
      arith,
      end_is p.After-put_part-end,
      charge_bytes_high a.s.charge,
      tasks_bytes_high (view_of a.s) a.s.count,
      f.few_tasks,
      f.few_releases,
      list_high l,
      length_releases a.list.now.count a.list.now.task.now a.list.now.tick.now a.list.now.cost.now,
    )

pub shape_of-out : goal.shape_of-out
shape_of-out c =
    omega (arith, length-set c.put_part-end.new.out c.put_part-end.result 3, long (goal.at.shape_of-out c).After-put_part-end)

pub returns : goal.returns
returns c =
    let p = goal.at.returns c in
    let w = p.In_ok-check_write in
    let b = c.put_part-middle.ensures in
    write_done _ _ _ _ _ _ (in_array w) _ _ _ _ c.in_ok-check_write.ensures c.put_sheet-start.ensures.bytes
    (stored_both _ _ _ _ _ _ _ _ _ _ c.short_count-shorts.ensures.within b.bytes b.end c.put_part-end.ensures.bytes)
    (sized p.After-short_count-shorts) (end_is p.After-put_part-end) (fits w).bytes
