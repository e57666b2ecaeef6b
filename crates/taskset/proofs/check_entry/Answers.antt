-- 6 where the ranges fail; past that the cost is at most 1,000,000, and the load fits 32 bits.
use mathlib.Core.Path.{◌≡◌, sym, ◌∙◌}
use mathlib.Core.Bool.{true}
use borrow.Author.Tests.{not-true, not-false}
use native.Mathlib.Omega.{arith}
use Rattle.model.specs.Checks.{in_range}
use Rattle.model.proofs.CheckLaws.{in_range_of, entry_outside, entry_heavy, entry_fine, faulty, faultless}
use Rattle.taskset.proofs.check_entry.Goals.{Else-not-in_range}
use Rattle.taskset.proofs.check_entry.Goals as goal

ranged : (c : Else-not-in_range) → let t = c.args.t in in_range t.period t.jitter t.cost t.deadline ≡ true
ranged c = sym c.in_range.ensures ∙ not-false _ c.if-not-in_range.false-raw

pub returns-then-not-in_range : goal.returns-then-not-in_range
returns-then-not-in_range c = faulty _ 6 _ (entry_outside _ _ _ _ _ (sym c.in_range.ensures ∙ not-true _ c.if-not-in_range.true-raw))

pub overflow_add-load : goal.overflow_add-load
overflow_add-load c =
    let r = in_range_of _ _ _ _ (ranged (goal.at.overflow_add-load c).Else-not-in_range) in
    omega (arith, r.cost_period, r.period_high)

pub returns-then-t-load : goal.returns-then-t-load
returns-then-t-load c = faulty _ 17 _ (entry_heavy _ _ _ _ _ (ranged (goal.at.returns-then-t-load c).Else-not-in_range) (λ h. omega (arith, h.load_period)))

pub returns-then-t-load-2 : goal.returns-then-t-load-2
returns-then-t-load-2 c = faulty _ 17 _ (entry_heavy _ _ _ _ _ (ranged (goal.at.returns-then-t-load-2 c).Else-not-in_range) (λ h. omega (arith, h.load_deadline)))

pub returns : goal.returns
returns c =
    faultless _ _
    (entry_fine _ _ _ _ _ (ranged (goal.at.returns c).Else-not-in_range) (record { load_period = omega arith; load_deadline = omega arith }))
