-- What a read brought, case by case; and that the loader was fed a text again.
use Prim.Native.Nat.{ℕ, min}
use mathlib.Core.Path.{◌≡◌, refl, sym, ap, subst, ◌∙◌}
use mathlib.Core.Bool.{Bool, true, false}
use mathlib.Core.List.{List}
use lib.Dec.{eqb}
use lib.ListN.{length, take}
use borrow.Author.Tests.{eq-eqb, ne_eqb}
use Rattle.std.specs.Prelude.{Result, Ok, Err}
use Rattle.loader.specs.declared.Loader.{Loader}
use Rattle.loader.specs.Loader.{fed, decided}
use Rattle.loader.specs.Pieces.{Fed}
use Rattle.loader.proofs.PieceLaws.{fed_more}
use Rattle.choose_csv.specs.declared.Turn.{Turn}
use Rattle.choose_csv.specs.declared.Turn.TheVariants.{Fails, Prints, Reads}
use Rattle.choose_csv.specs.Turn.{onward, brought, turn_of}

-- a read that put n bytes into the buffer
module _ {E : Type 0} (s : Loader) (piece : List ℕ) (got : Result ℕ E) (k n : ℕ) (o : got ≡ Ok k) (m : n ≡ min k (length piece)) where
  went_on : brought s piece n ≡ turn_of s piece got
  went_on = ap (brought s piece) m ∙ ap (turn_of s piece) (sym o)

  pub turn_ends : n ≡ 0 → Prints s ≡ turn_of s piece got
  unfolding brought
  turn_ends z = sym (rw (brought, eq-eqb n 0 z)) ∙ went_on

  module _ (h : n ≡ 0 → ⊥) (t : Loader) (f : t ≡ fed s (take n piece)) where
    onward_is : onward t ≡ turn_of s piece got
    unfolding brought
    onward_is = ap onward f ∙ sym (rw (brought, ne_eqb n 0 h)) ∙ went_on

    pub turn_prints : decided t ≡ true → Prints t ≡ turn_of s piece got
    unfolding onward
    turn_prints d = sym (rw (onward, d)) ∙ onward_is

    pub turn_reads : decided t ≡ false → Reads t ≡ turn_of s piece got
    unfolding onward
    turn_reads d = sym (rw (onward, d)) ∙ onward_is

-- the loader was fed a text again
abbrev pub FedIn : Turn → Type 0
FedIn Fails = Unit
FedIn (Prints s) = Fed s
FedIn (Reads s) = Fed s

onward_fed : (s : Loader) → Fed s → FedIn (onward s)
unfolding onward
onward_fed s f = go (decided s) refl
  where
    go : (b : Bool) → decided s ≡ b → FedIn (onward s)
    go true e = rw (onward, e) f
    go false e = rw (onward, e) f

brought_fed : (s : Loader) (piece : List ℕ) (n : ℕ) → Fed s → FedIn (brought s piece n)
unfolding brought
brought_fed s piece n f = go (eqb n 0) refl
  where
    go : (b : Bool) → eqb n 0 ≡ b → FedIn (brought s piece n)
    go true e = rw (brought, e) f
    go false e = rw (brought, e) (onward_fed _ (fed_more s _ (take n piece) f refl))

pub turn_fed : {E : Type 0} (s : Loader) (piece : List ℕ) (got : Result ℕ E) (t : Turn) → Fed s → t ≡ turn_of s piece got → FedIn t
turn_fed s piece (Err e) t f h = subst FedIn (sym h) tt
turn_fed s piece (Ok n) t f h = subst FedIn (sym h) (brought_fed s piece _ f)
