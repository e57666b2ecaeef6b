use mathlib.Core.Path.{ap, ◌∙◌}
use native.Mathlib.Omega.{arith}
use Rattle.fileformat.specs.FileCalls.{tasks_in}
use Rattle.fileformat.proofs.RoundTrips.{charge_part, task_part, length_charge_part}
use Rattle.writer.proofs.StoreLaws.{stored_at, stored_long}
use Rattle.writer.specs.Writer.{stored}
use Rattle.writer.proofs.put_sheet.Goals as goal

pub put_tasks-requires : goal.put_tasks-requires
put_tasks-requires c =
    let p = c.requires in
    (p.0, omega (arith, p.1, c.charge_size.ensures, stored_long _ _ _ _ c.put_charge.ensures), p.2)

pub shape_of-out : goal.shape_of-out
shape_of-out c = omega (arith, stored_long _ _ _ _ c.put_tasks.ensures.bytes, stored_long _ _ _ _ c.put_charge.ensures)

pub returns : goal.returns
returns c =
    let a = c.args in
    let z = c.charge_size in (record {
      bytes = c.put_tasks.ensures.bytes
          ∙ ap (λ x. stored x z.result (task_part (tasks_in a.s))) c.put_charge.ensures
          ∙ stored_at a.out.now (charge_part a.s.charge) (task_part (tasks_in a.s)) 0 z.result
          (omega (arith, z.ensures, length_charge_part a.s.charge));
      end = omega (arith, c.put_tasks.ensures.end, z.ensures);
    })
