use mathlib.Core.Path.{◌≡◌, sym, ap, ◌∙◌}
use native.Mathlib.Omega.{arith}
use Rattle.releases.specs.Releases.{release}
use Rattle.fileformat.specs.Records.{short, long, width_in, release_bytes, release_size}
use Rattle.fileformat.proofs.WidthLaws.{short_tick}
use Rattle.writer.specs.Writer.{stored}
use Rattle.writer.proofs.StoreLaws.{stored_long, put_release_bytes}
use Rattle.writer.proofs.put_release.Goals.{Then-long, Else-long}
use Rattle.writer.proofs.put_release.Goals as goal

-- the record has 14 bytes, or 10
is_long : (c : Then-long) → release_size (width_in c.args.long) ≡ 14
is_long c = ap (λ b. release_size (width_in b)) c.if-long.true

is_short : (c : Else-long) → release_size (width_in c.args.long) ≡ 10
is_short c = ap (λ b. release_size (width_in b)) c.if-long.false

pub put_head-requires : goal.put_head-requires
put_head-requires c = omega (arith, is_long (goal.at.put_head-requires c).Then-long)

pub overflow_add-at : goal.overflow_add-at
overflow_add-at c = omega (arith, is_long (goal.at.overflow_add-at c).Then-long)

pub put_wide_number-requires : goal.put_wide_number-requires
put_wide_number-requires c = omega (arith, is_long (goal.at.put_wide_number-requires c).Then-long, stored_long _ _ _ _ c.put_head.ensures)

pub overflow_add-at-then-long : goal.overflow_add-at-then-long
overflow_add-at-then-long c = omega (arith, is_long (goal.at.overflow_add-at-then-long c).Then-long)

pub put_number-requires : goal.put_number-requires
put_number-requires c =
    omega (
      arith,
      is_long (goal.at.put_number-requires c).Then-long,
      stored_long _ _ _ _ c.put_wide_number.ensures,
      stored_long _ _ _ _ c.put_head.ensures,
    )

pub returns-then-long : goal.returns-then-long
returns-then-long c =
    let a = c.args in
    put_release_bytes long _ _ _ _ _ _ _ _ c.put_head.ensures c.put_wide_number.ensures c.put_number.ensures
    ∙ ap (λ b. stored a.out.now a.at (release_bytes (width_in b) (release a.task a.tick a.cost))) (sym c.if-long.true)

pub put_head-requires-2 : goal.put_head-requires-2
put_head-requires-2 c = omega (arith, is_short (goal.at.put_head-requires-2 c).Else-long)

pub overflow_add-at-2 : goal.overflow_add-at-2
overflow_add-at-2 c = omega (arith, is_short (goal.at.overflow_add-at-2 c).Else-long)

pub overflow_cast-tick : goal.overflow_cast-tick
overflow_cast-tick c = omega (arith, short_tick c.args.tick (c.requires.1 ∙ ap width_in c.if-long.false))

pub put_number-requires-2 : goal.put_number-requires-2
put_number-requires-2 c = omega (arith, is_short (goal.at.put_number-requires-2 c).Else-long, stored_long _ _ _ _ c.put_head-2.ensures)

pub overflow_add-at-3 : goal.overflow_add-at-3
overflow_add-at-3 c = omega (arith, is_short (goal.at.overflow_add-at-3 c).Else-long)

pub put_number-requires-3 : goal.put_number-requires-3
put_number-requires-3 c =
    omega (
      arith,
      is_short (goal.at.put_number-requires-3 c).Else-long,
      stored_long _ _ _ _ c.put_number-2.ensures,
      stored_long _ _ _ _ c.put_head-2.ensures,
    )

pub returns : goal.returns
returns c =
    let a = c.args in
    put_release_bytes short _ _ _ _ _ _ _ _ c.put_head-2.ensures c.put_number-2.ensures c.put_number-3.ensures
    ∙ ap (λ b. stored a.out.now a.at (release_bytes (width_in b) (release a.task a.tick a.cost))) (sym c.if-long.false)
