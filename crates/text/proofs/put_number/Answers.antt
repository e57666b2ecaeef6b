-- A number below 10^(MOST - 1) has at most MOST - 1 digits.
use Prim.Native.Nat.{suc, ◌-◌}
use mathlib.Core.Path.{◌≡◌}
use native.Mathlib.Omega.{arith}
use Rattle.text.proofs.TextLaws.{field_room, field_put}
use Rattle.text.proofs.put_number.Goals as goal

pub put_ended-requires : goal.put_ended-requires
put_ended-requires g c =
    let most : suc (suc (g.row.MOST - 2)) ≡ g.row.MOST = omega arith in
    let digits : suc (g.row.MOST - 2) ≡ g.row.MOST - 1 = omega arith in
    field_room _ _ _ (g.row.MOST - 2) _ (rw digits (omega arith)) (rw most c.requires.0)

pub returns : goal.returns
returns g c =
    let most : suc (suc (g.row.MOST - 2)) ≡ g.row.MOST = omega arith in
    let digits : suc (g.row.MOST - 2) ≡ g.row.MOST - 1 = omega arith in
    rw most at (field_put _ _ _ _ (g.row.MOST - 2) _ _ (rw digits (omega arith)) c.put_ended.ensures)
