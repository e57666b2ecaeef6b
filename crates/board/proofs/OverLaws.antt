-- Laws of a look for a tick that is over another, and of kept jitters copied in front of zeros.
use Prim.Native.Nat.{ℕ, suc, ◌+◌, ◌≤◌, ◌<◌}
use mathlib.Core.Path.{◌≡◌, refl, sym, ap, ◌∙◌}
use mathlib.Core.Logic.{◌⊎◌, inl, inr}
use mathlib.Core.Bool.{true, false}
use mathlib.Core.List.{List, ◌∷◌}
use native.Mathlib.Omega.{arith}
use native.Mathlib.Numerals.{add-one}
use borrow.Author.Tests.{lt-ltb, le-ltb}
use lib.ListN.{length, get_or, take, drop, length-take, get_or-eq_default}
use lib.Seq.{length-take-le, get_or-take, drop-cons, drop-length}
use Rattle.model.specs.Slots.{Holds}
use Rattle.model.specs.Choice.{column}
use Rattle.model.proofs.SeriesLaws.{le_or_lt}
use Rattle.admission.specs.Boards.{any_over}

-- the first i of n ticks are not over t
pub record Passing (t n : ℕ) (l : List ℕ) (i : ℕ) : Type 0 where
  pub within : i ≤ n
  pub long : n ≤ length l
  pub rest : any_over t (take n l) ≡ any_over t (drop i (take n l))

module _ (t n : ℕ) (l : List ℕ) where
  pub passing_none : n ≤ length l → Passing t n l 0
  passing_none h = record { within = omega arith; long = h; rest = refl }

  next : (i : ℕ) → n ≤ length l → i < n → drop i (take n l) ≡ get_or l i 0 ∷ drop (suc i) (take n l)
  next i g h =
      drop-cons (take n l) i 0 (omega (arith, length-take-le n l g)) ∙ ap (λ x. x ∷ drop (suc i) (take n l)) (get_or-take n l i 0 h)

  pub passing_next : (i : ℕ) → Passing t n l i → i < n → get_or l i 0 ≤ t → Passing t n l (i + 1)
  unfolding any_over
  passing_next i f h e =
      record {
        within = omega arith;
        long = f.long;
        rest = f.rest ∙ ap (any_over t) (next i f.long h) ∙ (rw (add-one, any_over, le-ltb t (get_or l i 0) e));
      }

  pub passing_here : (i : ℕ) → Passing t n l i → i < n → t < get_or l i 0 → true ≡ any_over t (take n l)
  unfolding any_over
  passing_here i f h e = sym (f.rest ∙ ap (any_over t) (next i f.long h) ∙ (rw (any_over, lt-ltb t (get_or l i 0) e)))

  pub passing_all : (i : ℕ) → Passing t n l i → n ≤ i → false ≡ any_over t (take n l)
  unfolding any_over
  passing_all i f h =
      let e : i ≡ length (take n l) = omega (arith, f.within, length-take-le n l f.long) in
      sym (f.rest ∙ ap (λ k. any_over t (drop k (take n l))) e ∙ ap (any_over t) (drop-length (take n l)))

-- a column that holds the first n numbers of another, and 0 past them, says what the first n numbers say
pub column_kept : (n : ℕ) (keep kept : List ℕ) → Holds (column keep) n 32 kept → column kept ≡ column (take n keep)
column_kept n keep kept h = λ x i. each i x
  where
    short : length (take n keep) ≤ n
    short = omega (arith, length-take n keep)

    each : (i : ℕ) → column kept i ≡ column (take n keep) i
    each i = go (le_or_lt n i) (le_or_lt 32 i)
      where
        go : (n ≤ i) ⊎ (i < n) → (32 ≤ i) ⊎ (i < 32) → column kept i ≡ column (take n keep) i
        go (inr l) b = h.each i l ∙ sym (get_or-take n keep i 0 l)
        go (inl l) (inl b) = get_or-eq_default kept 0 (omega (arith, h.long)) ∙ sym (get_or-eq_default (take n keep) 0 (omega (arith, short)))
        go (inl l) (inr b) = h.past i l b ∙ sym (get_or-eq_default (take n keep) 0 (omega (arith, short)))

-- a loop that has ended at the count
pub holds_at : (f : ℕ → ℕ) (i n k : ℕ) (l : List ℕ) → Holds f i k l → i ≡ n → Holds f n k l
holds_at f i n k l h e = rw (← e) h
