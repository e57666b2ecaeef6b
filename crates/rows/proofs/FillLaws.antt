-- A local array that a loop fills with what it reads, place by place; and what is read, put together.
use Prim.Native.Nat.{ℕ, ◌+◌, ◌*◌, ◌%◌, ◌≤◌, ◌<◌}
use mathlib.Core.Path.{◌≡◌, refl, sym, ap, ap₂, ◌∙◌}
use mathlib.Core.Bool.{not}
use mathlib.Core.List.{List}
use native.Mathlib.Omega.{arith}
use native.Mathlib.Numerals.{add-one}
use borrow.Author.Tests.{eq-eqb, ne_eqb}
use lib.Dec.{eqb}
use Rattle.std.specs.Prelude.{Option, Some, None}
use lib.ListN.{length, take, set, length-set}
use lib.Seq.{take-suc-set, take_all}
use Rattle.model.specs.Series.{table}
use Rattle.taskset.specs.declared.TaskSet.{TaskSet}
use Rattle.frame.specs.declared.Window.{Window}
use Rattle.frame.specs.declared.Frame.{Frame}
use Rattle.interface.specs.Interface.{sheet_from}
use Rattle.plan.specs.declared.Plan.{Plan}
use Rattle.plan.specs.declared.Board.{Board}
use Rattle.rows.specs.Rows.{at, plan_from, window_in, frame_numbers, frame_in, board_from}

module _ {A : Type 0} (f : ℕ → A) (n : ℕ) where
  -- of n places the first i hold the values of f
  pub record Read (l : List A) (i : ℕ) : Type 0 where
    pub long : length l ≡ n
    pub within : i ≤ n
    pub front : take i l ≡ table f i

  pub read_none : (l : List A) → length l ≡ n → Read l 0
  unfolding table
  read_none l e = record { long = e; within = omega arith; front = refl }

  pub read_next : (l : List A) (i : ℕ) (a : A) → Read l i → i < n → a ≡ f i → Read (set l i a) (i + 1)
  unfolding table
  read_next l i a r h e =
      record {
        long = simp length-set r.long;
        within = omega arith;
        front = rw (add-one, take-suc-set l i a (omega (arith, r.long)), r.front, e);
      }

  pub read_all : (l : List A) (i : ℕ) → Read l i → n ≤ i → l ≡ table f n
  read_all l i r h =
      let e : i ≡ n = omega (arith, r.within) in
      sym (take_all i l (omega (arith, r.long))) ∙ r.front ∙ ap (table f) e

-- the parts that are read make an offer, a frame and a board
pub plan_made
    : (l : List ℕ) (n c m : ℕ) (tasks : TaskSet) (keep worst : List ℕ)
    → n ≡ at l 160
    → c ≡ at l 161
    → m ≡ at l 162
    → tasks ≡ sheet_from l n (c % 256)
    → keep ≡ table (λ i. at l (163 + i)) 32
    → worst ≡ table (λ i. at l (195 + i)) 32
    → ◌≡◌ {A = Plan} (record { tasks = tasks; keep = keep; worst = worst; partial = not (eqb m 0) }) (plan_from l)
plan_made l n c m tasks keep worst en ec em et ek ew =
    let e = et ∙ ap₂ (λ (x y : ℕ). sheet_from l x (y % 256)) en ec in
    λ x. record { tasks = e x; keep = ek x; worst = ew x; partial = not (eqb (em x) 0) }

pub frame_none : (l : List ℕ) → at l 227 ≡ 0 → frame_in l ≡ None
unfolding frame_in
frame_none l e = rw (frame_in, eq-eqb (at l 227) 0 e)

pub frame_some : (l : List ℕ) → (at l 227 ≡ 0 → ⊥) → frame_in l ≡ Some (frame_numbers l)
unfolding frame_in
frame_some l h = rw (frame_in, ne_eqb (at l 227) 0 h)

pub no_frame_made : (l : List ℕ) (p : ℕ) → p ≡ at l 227 → p ≡ 0 → None ≡ frame_in l
no_frame_made l p e h = sym (frame_none l (sym e ∙ h))

pub frame_made
    : (l : List ℕ) (p t n : ℕ) (windows : List Window) → p ≡ at l 227 → (p ≡ 0 → ⊥) → t ≡ at l 228 → n ≡ at l 229 → windows ≡ table (window_in l) 16
    → Some (record { ticks = t; count = n; windows = windows }) ≡ frame_in l
frame_made l p t n windows ep h et en ew =
    let k : Some (record { ticks = t; count = n; windows = windows }) ≡ Some (frame_numbers l) = cc in
    k ∙ sym (frame_some l (λ e. h (ep ∙ e)))

pub board_made
    : (l : List ℕ) (p : Plan) (f : Option Frame) (low high low' high' : ℕ)
    → p ≡ plan_from l
    → f ≡ frame_in l
    → low ≡ at l 262
    → high ≡ at l 263
    → low' ≡ low
    → high' ≡ high
    → ◌≡◌ {A = Board} (record { plan = p; frame = f; last = low' + high' * 4294967296 }) (board_from l)
board_made l p f low high low' high' ep ef el eh wl wh =
    let a = wl ∙ el in
    let b = wh ∙ eh in
    λ x. record { plan = ep x; frame = ef x; last = a x + b x * 4294967296 }
