-- Both contracts, over columns that held the same.
use Rattle.frame.specs.FrameView.{framed_of}
use Rattle.agreement.specs.Agreement.{Ticked, Jumped}
use Rattle.agreement.proofs.AgreementLaws.{same_ends}
use Rattle.agreement.proofs.both_runs.Goals as goal

pub returns : goal.returns
returns c =
    let a = c.args in
    let ticked : Ticked (framed_of a.s a.f) a.kept.now a.list.now.count a.list.now.task.now a.list.now.tick.now a.list.now.cost.now a.ready.now a.finish.now _ _ _ =
    record { refusal = c.run-ticked.ensures.refusal; ready_column = c.run-ticked.ensures.ticks; finish_column = c.run-ticked.ensures.finishes }
    in
    let jumped : Jumped (framed_of a.s a.f) a.kept.now a.list.now.count a.list.now.task.now a.list.now.tick.now a.list.now.cost.now a.readies.now a.finishes.now _ _ _ =
    record { answer = c.run-jumped.ensures.answer; ready_column = c.run-jumped.ensures.ticks; finish_column = c.run-jumped.ensures.finishes }
    in
    (record {
      ticks = ticked;
      jumps = jumped;
      same = same_ends _ _ _ _ _ _ _ _ _ _ _ _ _ _ _ _ ticked jumped;
    })
