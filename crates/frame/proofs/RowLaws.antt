-- Laws of a frame passed as numbers: its windows, filled one by one.
use Prim.Native.Nat.{ℕ, ◌+◌, ◌≤◌, ◌<◌}
use mathlib.Core.Path.{◌≡◌, refl, sym, ap, ◌∙◌}
use mathlib.Core.List.{List, [], ◌∷◌}
use native.Mathlib.Omega.{arith}
use native.Mathlib.Numerals.{add-one}
use lib.ListN.{length, get_or, take, set, length-set}
use Rattle.std.specs.Prelude.{Some, None}
use lib.Seq.{take-suc-set, take_all}
use Rattle.model.specs.Series.{table}
use Rattle.frame.specs.declared.Window.{Window}
use Rattle.frame.specs.FrameView.{window_at, frame_from}

-- of 16 windows the first k are those of the numbers
pub record Filled (l : List ℕ) (windows : List Window) (k : ℕ) : Type 0 where
  pub long : length windows ≡ 16
  pub within : k ≤ 16
  pub front : take k windows ≡ table (window_at l) k

pub filled_none : (l : List ℕ) (windows : List Window) → length windows ≡ 16 → Filled l windows 0
unfolding table
filled_none l windows e = record { long = e; within = omega arith; front = refl }

pub filled_next : (l : List ℕ) (windows : List Window) (k : ℕ) (w : Window) → Filled l windows k → k < 16 → w ≡ window_at l k → Filled l (set windows k w) (k + 1)
unfolding table
filled_next l windows k w f h e =
    record {
      long = simp length-set f.long;
      within = omega arith;
      front = rw (add-one, take-suc-set windows k w (omega (arith, f.long)), f.front, e);
    }

pub filled_all : (l : List ℕ) (windows : List Window) (k : ℕ) → Filled l windows k → 16 ≤ k → windows ≡ table (window_at l) 16
filled_all l windows k f h =
    let e : k ≡ 16 = omega (arith, f.within) in
    sym (take_all k windows (omega (arith, f.long))) ∙ f.front ∙ ap (table (window_at l)) e

-- an empty row is no frame
pub empty_row : (l : List ℕ) → length l ≡ 0 → None ≡ frame_from l
empty_row [] h = refl
empty_row (x ∷ l) h = absurd (omega arith)

-- another row is the frame of its numbers
pub full_row
    : (l : List ℕ) (t n : ℕ) (w : List Window) → (length l ≡ 0 → ⊥) → t ≡ get_or l 0 0 → n ≡ get_or l 1 0 → w ≡ table (window_at l) 16
    → Some (record { ticks = t; count = n; windows = w }) ≡ frame_from l
full_row [] t n w h a b c = absurd (h refl)
full_row (x ∷ l) t n w h a b c = cc
