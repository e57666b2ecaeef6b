-- Each test leaves one of the numbers.
use Rattle.interface.proofs.InterfaceLaws.{after_none, after_release, after_kept, after_choice, after_commit}
use native.Mathlib.Omega.{arith}
use Rattle.interface.proofs.after_slots.Goals as goal

pub returns-then-number-lt7 : goal.returns-then-number-lt7
returns-then-number-lt7 c = after_none _ (omega arith)

pub returns-then-number-le9 : goal.returns-then-number-le9
returns-then-number-le9 c = after_release _ (omega arith) (omega arith)

pub returns-then-number-eq12 : goal.returns-then-number-eq12
returns-then-number-eq12 c = after_kept _ (omega arith)

pub returns-then-number-lt19 : goal.returns-then-number-lt19
returns-then-number-lt19 c = after_choice _ (omega arith) (λ e. omega arith) (omega arith)

pub returns : goal.returns
returns c = after_commit _ (omega arith)
