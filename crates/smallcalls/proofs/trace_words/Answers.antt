-- The search, then the columns, then the words; and only then is anything written.
use native.Mathlib.Omega.{arith}
use Rattle.releases.proofs.ReleaseLaws.{columns_of}
use Rattle.smalltraces.proofs.SmallEndLaws.{call_refused, call_past, call_short, call_trace, found_refused, found_past, found_trace, found_columns, ends_trace}
use Rattle.smallcalls.specs.SmallWords.{small_answer}
use Rattle.smallcalls.proofs.WordLaws.{trace_refused, trace_past, trace_few, trace_put}
use Rattle.smallcalls.proofs.trace_words.Goals as goal

pub returns-in-Err : goal.returns-in-Err
unfolding small_answer
returns-in-Err c = trace_refused _ _ _ _ _ _ _ (call_refused _ _ _ _ _ _ _ _ (found_refused _ _ _ _ _ c.in-Err.ensures)) c.refusal_code.ensures

pub returns-in_default : goal.returns-in_default
unfolding small_answer
returns-in_default c =
    trace_past _ _ _ _ _ _ _ (call_past _ _ _ _ _ _ _ (found_past _ _ _ _ (rw c.in_default.is at c.in-Ok.ensures))) c.put_words.ensures

pub returns-in-Err-check_columns : goal.returns-in-Err-check_columns
unfolding small_answer
returns-in-Err-check_columns c =
    trace_refused _ _ _ _ _ _ _
    (call_short _ _ _ _ _ _ _ _ (found_trace _ _ _ _ _ (rw c.in-Some.is at c.in-Ok.ensures)) _ c.in-Err-check_columns.ensures)
    c.refusal_code-in-Err-check_columns.ensures

pub returns-then-answer-lt2 : goal.returns-then-answer-lt2
unfolding small_answer
returns-then-answer-lt2 c =
    let h = found_trace _ _ _ _ _ (rw c.in-Some.is at c.in-Ok.ensures) in
    trace_few _ _ _ _ _ h.trace (call_trace _ _ _ _ _ _ _ _ h c.in_default-check_columns.ensures) _
    c.if-answer-lt2.true c.short_code.ensures

pub put_rows-requires : goal.put_rows-requires
put_rows-requires c = (
  found_columns _ _ _ _ _ (rw c.in-Some.is at c.in-Ok.ensures)
      (record {
        task_long = omega (arith, c.find.auto.task);
        tick_long = omega (arith, c.find.auto.tick);
        cost_long = omega (arith, c.find.auto.cost);
      }),
  columns_of _ _ _ _ c.in_default-check_columns.ensures,
)

pub returns : goal.returns
unfolding small_answer
returns c =
    let h = found_trace _ _ _ _ _ (rw c.in-Some.is at c.in-Ok.ensures) in
    let e = call_trace _ _ _ _ _ _ _ _ h c.in_default-check_columns.ensures in
    trace_put _ _ _ _ _ h.trace e _ _ _ _ _ _ h.long c.if-answer-lt2.false
    (ends_trace _ _ _ _ _ _ _ _ _ _ _ h.trace h.long (c.find.ensures.rows _ h.is)
    (found_columns _ _ _ _ _ (rw c.in-Some.is at c.in-Ok.ensures)
    (record {
      task_long = omega (arith, c.find.auto.task);
      tick_long = omega (arith, c.find.auto.tick);
      cost_long = omega (arith, c.find.auto.cost);
    }))
    (record {
      task_put = c.put_rows.ensures.task_column;
      tick_put = c.put_rows.ensures.tick_column;
      cost_put = c.put_rows.ensures.cost_column;
    }) e) c.put_words-2.ensures
