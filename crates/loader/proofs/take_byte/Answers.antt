use mathlib.Core.Path.{◌≡◌, sym, ap, ◌∙◌}
use mathlib.Core.Bool.{true, false}
use native.Mathlib.Omega.{arith}
use borrow.Author.Tests.{not-true, not-false}
use Rattle.textformat.specs.Numerals.{is_digit}
use Rattle.loader.specs.declared.Taken.TheVariants.{Goes}
use Rattle.loader.specs.Loader.{with_digit}
use Rattle.loader.proofs.TakenLaws.{taken_leading, taken_digit, taken_early, taken_comma_over, taken_comma, taken_other, taken_short, taken_end}
use Rattle.loader.proofs.take_byte.Goals.{Then-is_ascii_digit, Else-is_ascii_digit}
use Rattle.loader.proofs.take_byte.Goals as goal

-- the byte is a digit, or it is none
digit_yes : (c : Then-is_ascii_digit) → is_digit c.args.b ≡ true
unfolding is_digit
digit_yes c = sym c.is_ascii_digit.ensures.value ∙ c.if-is_ascii_digit.true

digit_no : (c : Else-is_ascii_digit) → is_digit c.args.b ≡ false
unfolding is_digit
digit_no c = sym c.is_ascii_digit.ensures.value ∙ c.if-is_ascii_digit.false

pub returns-then-after_zero : goal.returns-then-after_zero
returns-then-after_zero c = taken_leading _ _ (digit_yes (goal.at.returns-then-after_zero c).Then-is_ascii_digit) (sym c.after_zero.ensures ∙ c.if-after_zero.true)

pub returns-then-is_ascii_digit : goal.returns-then-is_ascii_digit
returns-then-is_ascii_digit c =
    ap Goes (c.with_digit.ensures ∙ ap (with_digit c.args.m) c.from.ensures)
    ∙ taken_digit _ _ (digit_yes (goal.at.returns-then-is_ascii_digit c).Then-is_ascii_digit) (sym c.after_zero.ensures ∙ c.if-after_zero.false)

pub returns-then-not-m : goal.returns-then-not-m
returns-then-not-m c = taken_early _ _ (digit_no (goal.at.returns-then-not-m c).Else-is_ascii_digit) (not-true _ c.if-not-m.true)

pub returns-then-m-ge3 : goal.returns-then-m-ge3
returns-then-m-ge3 c = taken_comma_over _ _ (digit_no (goal.at.returns-then-m-ge3 c).Else-is_ascii_digit) c.if-b-eq44.true c.if-m-ge3.true

pub returns-then-b-eq44 : goal.returns-then-b-eq44
returns-then-b-eq44 c =
    ap Goes c.with_comma.ensures
    ∙ taken_comma _ _ (digit_no (goal.at.returns-then-b-eq44 c).Else-is_ascii_digit) c.if-b-eq44.true
    (not-false _ c.if-not-m.false) (omega arith)

pub returns-then-b-ne10 : goal.returns-then-b-ne10
returns-then-b-ne10 c = taken_other _ _ (digit_no (goal.at.returns-then-b-ne10 c).Else-is_ascii_digit) (λ e. omega arith) (λ e. omega arith)

pub returns-then-m-ne3 : goal.returns-then-m-ne3
returns-then-m-ne3 c = taken_short _ _ (digit_no (goal.at.returns-then-m-ne3 c).Else-is_ascii_digit) (omega arith) (λ e. omega arith)

pub returns : goal.returns
returns c = taken_end _ _ (digit_no (goal.at.returns c).Else-is_ascii_digit) (omega arith) (not-false _ c.if-not-m.false) (omega arith)
