use native.Mathlib.Omega.{arith}
use Rattle.writer.proofs.PartLaws.{cut_bytes}
use Rattle.writer.proofs.list_size.Goals as goal

pub overflow_mul-result : goal.overflow_mul-result
overflow_mul-result c = omega (arith, c.requires.0)

pub short_count-requires : goal.short_count-requires
short_count-requires c = c.requires.1

pub overflow_mul-result-then-rising : goal.overflow_mul-result-then-rising
overflow_mul-result-then-rising c = omega (arith, c.requires.0, c.short_count.ensures.within)

pub overflow_sub-result : goal.overflow_sub-result
overflow_sub-result c = omega (arith, c.requires.0, c.short_count.ensures.within)

pub returns-then-rising : goal.returns-then-rising
returns-then-rising c = λ task cost. cut_bytes _ task _ cost _ (c.requires.2 c.if-rising.true) c.short_count.ensures

pub counted_size-requires : goal.counted_size-requires
counted_size-requires c = (c.requires.0, c.requires.1)

pub returns : goal.returns
returns c = c.counted_size.ensures
