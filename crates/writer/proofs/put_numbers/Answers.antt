-- Kind, P, J, E and D are stored one after the other, and the lent bytes stay as many as before.
use mathlib.Core.Path.{◌≡◌, ◌∙◌}
use native.Mathlib.Omega.{arith}
use lib.ListN.{length, length-set}
use Rattle.writer.proofs.StoreLaws.{stored_long, put_number_bytes}
use Rattle.writer.proofs.put_numbers.Goals.{After-put_number, After-put_number-2, After-put_number-3}
use Rattle.writer.proofs.put_numbers.Goals as goal

long_one : (c : After-put_number) → length c.put_number.new.out ≡ length c.args.out.now
long_one c = stored_long _ _ _ _ c.put_number.ensures ∙ length-set c.args.out.now c.args.at c.args.kind

long_two : (c : After-put_number-2) → length c.put_number-2.new.out ≡ length c.args.out.now
long_two c = stored_long _ _ _ _ c.put_number-2.ensures ∙ (stored_long _ _ _ _ c.put_number.ensures ∙ length-set c.args.out.now c.args.at c.args.kind)

long_three : (c : After-put_number-3) → length c.put_number-3.new.out ≡ length c.args.out.now
long_three c =
    stored_long _ _ _ _ c.put_number-3.ensures
    ∙ stored_long _ _ _ _ c.put_number-2.ensures
    ∙ stored_long _ _ _ _ c.put_number.ensures
    ∙ length-set c.args.out.now c.args.at c.args.kind

pub put_number-requires : goal.put_number-requires
put_number-requires c = simp length-set (omega arith)

pub put_number-requires-2 : goal.put_number-requires-2
put_number-requires-2 c = omega (arith, long_one (goal.at.put_number-requires-2 c).After-put_number)

pub put_number-requires-3 : goal.put_number-requires-3
put_number-requires-3 c = omega (arith, long_two (goal.at.put_number-requires-3 c).After-put_number-2)

pub put_number-requires-4 : goal.put_number-requires-4
put_number-requires-4 c = omega (arith, long_three (goal.at.put_number-requires-4 c).After-put_number-3)

pub shape_of-out : goal.shape_of-out
shape_of-out c = omega (arith, stored_long _ _ _ _ c.put_number-4.ensures, long_three (goal.at.shape_of-out c).After-put_number-3)

pub returns : goal.returns
returns c = put_number_bytes _ _ _ _ _ _ _ c.args.t c.put_number.ensures c.put_number-2.ensures c.put_number-3.ensures c.put_number-4.ensures
