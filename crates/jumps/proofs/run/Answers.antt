-- The checks come first, with the ready ticks; the finish ticks are written and the stops counted where they pass.
use mathlib.Core.Path.{refl, ◌∙◌}
use Rattle.refusal.proofs.PassedOn.{passed_answer}
use Rattle.frame.specs.FrameView.{framed_of}
use Rattle.frame.proofs.ColumnLaws.{ruled_columns}
use Rattle.model.proofs.OrderLaws.{column_kept, column_by}
use Rattle.trace.proofs.ListCallLaws.{run_checks}
use Rattle.queues.proofs.FramedLaws.{jobs_alike, runnable_alike}
use Rattle.queues.proofs.RunCallLaws.{Cleared, shaped, runnable, finish_written}
use Rattle.jumps.proofs.JumpCallLaws.{jump_refused, jump_answered}
use Rattle.jumps.proofs.run.Goals.{In_ok-check_and_shape}
use Rattle.jumps.proofs.run.Goals as goal

-- every check passes
fine : (c : In_ok-check_and_shape)
    → let a = c.args in
    Cleared (framed_of a.s a.f) a.kept.now a.list.now.count a.list.now.task.now a.list.now.tick.now a.list.now.cost.now a.ready.now a.finish.now
fine c =
    let a = c.args in
    record {
      clear = c.in_ok-check_and_shape.ensures.refusal
          ∙ run_checks (framed_of a.s a.f) a.kept.now a.list.now.count a.list.now.task.now a.list.now.tick.now a.list.now.cost.now a.ready.now a.finish.now;
    }

pub returns-in_err-check_and_shape : goal.returns-in_err-check_and_shape
returns-in_err-check_and_shape c =
    let a = c.args in
    let e = c.in_err-check_and_shape.ensures.refusal
    ∙ run_checks (framed_of a.s a.f) a.kept.now a.list.now.count a.list.now.task.now a.list.now.tick.now a.list.now.cost.now a.ready.now a.finish.now in
    (record {
      answer = passed_answer _ _ _ c.from_residual.ensures.1 (jump_refused _ _ _ _ _ _ _ _ _ e);
      ticks = column_by _ _ _ _ _ c.in_err-check_and_shape.ensures.ticks e;
      finishes = column_kept _ _ _ _ e;
    })

pub supply_of-supply-requires : goal.supply_of-supply-requires
supply_of-supply-requires c = (runnable _ _ _ _ _ _ _ _ (fine (goal.at.supply_of-supply-requires c).In_ok-check_and_shape)).framed

pub fill_finish-stops-requires : goal.fill_finish-stops-requires
fill_finish-stops-requires c =
    let p = c.supply_of-supply.ensures in (record {
      supplies = p.supplies;
      runnable = rw (shaped _ _ _ _ _ _ _ _ (fine (goal.at.fill_finish-stops-requires c).In_ok-check_and_shape) _ _ refl c.in_ok-check_and_shape.ensures.ticks)
          (runnable_alike _ _ p.same _ _ _ _ _ _ _ (ruled_columns _ _ _ _ _ p.supplies.columns) (runnable _ _ _ _ _ _ _ _ (fine (goal.at.fill_finish-stops-requires c).In_ok-check_and_shape)));
    })

pub returns : goal.returns
returns c =
    let e = fine (goal.at.returns c).In_ok-check_and_shape in
    let x = shaped _ _ _ _ _ _ _ _ e _ _ refl c.in_ok-check_and_shape.ensures.ticks in
    let f = rw (jobs_alike _ _ c.supply_of-supply.ensures.same _ _ _ _ _) at c.fill_finish-stops.ensures in (record {
      answer = jump_answered _ _ _ _ _ _ _ _ e _ _ x f.stops;
      ticks = column_by _ _ _ _ _ c.in_ok-check_and_shape.ensures.ticks e.clear;
      finishes = finish_written _ _ _ _ _ _ _ _ e _ _ x f.finishes;
    })
