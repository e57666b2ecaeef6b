use native.Mathlib.Omega.{arith}
use Rattle.text.proofs.TextLaws.{field_long, put_ended}
use Rattle.text.proofs.put_ended.Goals as goal

pub put_decimal-next-requires : goal.put_decimal-next-requires
put_decimal-next-requires c = omega (arith, field_long c.args.n c.args.end)

pub put_byte-requires : goal.put_byte-requires
put_byte-requires c =
    omega (
      arith,
      field_long c.args.n c.args.end,
      c.put_decimal-next.ensures.next,
      c.put_decimal-next.auto.out,
    )

pub returns : goal.returns
returns c = put_ended _ _ _ _ _ _ _ _ c.put_decimal-next.ensures c.put_byte.ensures
