use mathlib.Core.Path.{◌≡◌, sym, ap, ◌∙◌}
use native.Mathlib.Omega.{arith}
use lib.ListN.{drop}
use Rattle.fileformat.specs.Records.{width_in, short, long, body_size, release_from}
use Rattle.fileformat.proofs.NumberLaws.{field_one}
use Rattle.fileformat.proofs.OffsetLaws.{release_fields}
use Rattle.records.proofs.job_at.Goals.{Then-long, Else-long}
use Rattle.records.proofs.job_at.Goals as goal

-- the body has 13 bytes, or 9
is_long : (c : Then-long) → body_size (width_in c.args.long) ≡ 13
is_long c = ap (λ b. body_size (width_in b)) c.if-long.true

is_short : (c : Else-long) → body_size (width_in c.args.long) ≡ 9
is_short c = ap (λ b. body_size (width_in b)) c.if-long.false

pub overflow_add-at : goal.overflow_add-at
overflow_add-at c = omega (arith, is_long (goal.at.overflow_add-at c).Then-long)

pub wide_number_at-late-requires : goal.wide_number_at-late-requires
wide_number_at-late-requires c = omega (arith, is_long (goal.at.wide_number_at-late-requires c).Then-long)

pub overflow_add-at-then-long : goal.overflow_add-at-then-long
overflow_add-at-then-long c = omega (arith, is_long (goal.at.overflow_add-at-then-long c).Then-long)

pub number_at-cost-requires : goal.number_at-cost-requires
number_at-cost-requires c = omega (arith, is_long (goal.at.number_at-cost-requires c).Then-long)

pub returns-then-long : goal.returns-then-long
returns-then-long c =
    release_fields _ _ long _ _ _ (c.from-task.ensures ∙ sym (field_one _ _ (omega arith))) c.wide_number_at-late.ensures
    c.number_at-cost.ensures
    ∙ ap (λ b. release_from (width_in b) (drop c.args.at c.args.f.now)) (sym c.if-long.true)

pub overflow_add-at-2 : goal.overflow_add-at-2
overflow_add-at-2 c = omega (arith, is_short (goal.at.overflow_add-at-2 c).Else-long)

pub number_at-requires : goal.number_at-requires
number_at-requires c = omega (arith, is_short (goal.at.number_at-requires c).Else-long)

pub overflow_add-at-3 : goal.overflow_add-at-3
overflow_add-at-3 c = omega (arith, is_short (goal.at.overflow_add-at-3 c).Else-long)

pub number_at-cost-requires-2 : goal.number_at-cost-requires-2
number_at-cost-requires-2 c = omega (arith, is_short (goal.at.number_at-cost-requires-2 c).Else-long)

pub returns : goal.returns
returns c =
    release_fields _ _ short _ _ _ (c.from-task.ensures ∙ sym (field_one _ _ (omega arith)))
    (c.from-tick.ensures ∙ c.number_at.ensures) c.number_at-cost-2.ensures
    ∙ ap (λ b. release_from (width_in b) (drop c.args.at c.args.f.now)) (sym c.if-long.false)
