-- A frame is there where the head says so.
use mathlib.Core.Path.{◌≡◌, refl, sym, ap, ◌∙◌}
use mathlib.Core.Bool.{not, true}
use mathlib.Core.List.{List, [], ◌∷◌}
use Prim.Native.Nat.{ℕ}
use native.Mathlib.Omega.{arith}
use lib.ListN.{length}
use borrow.Author.Tests.{eq-eqb, ne_eqb}
use Rattle.std.specs.Prelude.{is_some}
use Rattle.frame.specs.FrameView.{frame_from}
use Rattle.cases.proofs.frame_in.Goals as goal

-- a row that is not empty is a frame
there : (l : List ℕ) → length l ≡ 34 → is_some (frame_from l) ≡ true
there [] e = absurd (omega arith)
there (n ∷ l) e = refl

pub returns-then-head-eq0 : goal.returns-then-head-eq0
returns-then-head-eq0 c = sym (ap not (eq-eqb _ 0 c.if-head-eq0.true))

pub returns : goal.returns
returns c = ap is_some c.frame_from.ensures ∙ there _ c.read_column.auto.out ∙ sym (ap not (ne_eqb _ 0 c.if-head-eq0.false))
