use native.Mathlib.Omega.{arith}
use Rattle.text.proofs.TextLaws.{put_digit, put_digits, decimal_some, decimal_last}
use Rattle.text.proofs.+put_decimal.Goals as goal

pub put_byte-requires : goal.put_byte-requires
put_byte-requires t c = omega (arith, decimal_some c.args.n c.if-n-lt10.true, c.requires)

pub returns-then-n-lt10 : goal.returns-then-n-lt10
returns-then-n-lt10 t c = put_digit _ _ _ _ _ _ c.if-n-lt10.true c.digit.ensures c.put_byte.ensures

pub put_decimal-next-requires : goal.put_decimal-next-requires
put_decimal-next-requires t c = omega (arith, c.requires, decimal_last c.args.n c.if-n-lt10.false)

pub put_byte-requires-2 : goal.put_byte-requires-2
put_byte-requires-2 t c =
    omega (
      arith,
      decimal_last c.args.n c.if-n-lt10.false,
      c.put_decimal-next.ensures.next,
      c.put_decimal-next.auto.out,
      c.requires,
    )

pub returns : goal.returns
returns t c = put_digits _ _ _ _ _ _ _ _ c.if-n-lt10.false c.put_decimal-next.ensures c.digit-2.ensures c.put_byte-2.ensures
