-- A position in one list after the other: what is left of it after each, and the member that stands there.
use Prim.Native.Nat.{ℕ, ◌+◌, ◌-◌, ◌≤◌, ◌<◌}
use mathlib.Core.Path.{◌≡◌, refl, sym, ap, ◌∙◌}
use mathlib.Core.Bool.{Bool, true, false}
use mathlib.Core.Option.{some, none}
use mathlib.Core.List.{List, [], ◌++◌}
use native.Mathlib.Omega.{arith}
use borrow.Author.Tests.{lt-ltb, le-ltb, ltb-true, ltb-false}
use lib.Dec.{ltb}
use lib.ListN.{length, get_or, length-append, get_or-append}
use lib.Seq.{get_or-append-add}
use Rattle.generator.specs.Generator.{left_after}

-- a position among so many, and one past them
pub left_none : (n p : ℕ) → p < n → left_after n p ≡ none
unfolding left_after
left_none n p h = rw (left_after, lt-ltb p n h)

pub left_some : (n p : ℕ) → n ≤ p → left_after n p ≡ some (p - n)
unfolding left_after
left_some n p h = rw (left_after, le-ltb p n h)

pub left_inside : (n p : ℕ) → none ≡ left_after n p → p < n
left_inside n p e = go (ltb p n) refl
  where
    go : (b : Bool) → ltb p n ≡ b → p < n
    go true h = ltb-true p n h
    go false h =
        let c : none ≡ some (p - n) = e ∙ left_some n p (ltb-false p n h) in
        let z : ◌≡◌ {A = ℕ} 0 1 = cc in absurd (omega arith)

-- a position that is not among them
pub record Past (n p left : ℕ) : Type 0 where
  pub past : n ≤ p
  pub is : left ≡ p - n

pub left_past : (n p left : ℕ) → some left ≡ left_after n p → Past n p left
left_past n p left e = go (ltb p n) refl
  where
    go : (b : Bool) → ltb p n ≡ b → Past n p left
    go true h =
        let c : some left ≡ none = e ∙ left_none n p (ltb-true p n h) in
        let z : ◌≡◌ {A = ℕ} 0 1 = cc in absurd (omega arith)
    go false h =
        let k : n ≤ p = ltb-false p n h in
        let c : some left ≡ some (p - n) = e ∙ left_some n p k in
        record { past = k; is = cc }

-- position p of all is position left of the rest, lists that were passed over being left out
pub record Going {A : Type 0} (d : A) (all rest : List A) (p left : ℕ) : Type 0 where
  pub left_over_lem : left_after (length all) p ≡ left_after (length rest) left
  pub same : get_or all p d ≡ get_or rest left d

module _ {A : Type 0} (d : A) (all : List A) (p : ℕ) where
  pub going_none : Going d all all p p
  going_none = record { left_over_lem = refl; same = refl }

  -- nothing is left to look at
  pub going_all : (left : ℕ) → Going d all [] p left → some left ≡ left_after (length all) p
  going_all left g = sym (g.left_over_lem ∙ left_some 0 left (omega arith) ∙ ap some (omega arith))

  module _ (part rest : List A) (left : ℕ) (g : Going d all (part ++ rest) p left) where
    -- the position is one of the next part
    pub going_here : left < length part → none ≡ left_after (length all) p
    going_here h = sym (g.left_over_lem ∙ left_none (length (part ++ rest)) left (omega (arith, length-append part rest)))

    pub going_member : left < length part → get_or part left d ≡ get_or all p d
    going_member h = sym (g.same ∙ get_or-append part rest d left h)

    -- it is past the next part
    pub going_next : (left' : ℕ) → Past (length part) left left' → Going d all rest p left'
    going_next left' h =
        record {
          left_over_lem = g.left_over_lem ∙ over (ltb left' (length rest)) refl;
          same = g.same ∙ ap (λ (k : ℕ). get_or (part ++ rest) k d) back ∙ get_or-append-add part rest left' d;
        }
      where
        back : left ≡ length part + left'
        back = omega (arith, h.past, h.is)

        over : (b : Bool) → ltb left' (length rest) ≡ b → left_after (length (part ++ rest)) left ≡ left_after (length rest) left'
        over true e =
            left_none (length (part ++ rest)) left (omega (arith, length-append part rest, ltb-true left' (length rest) e, back)) ∙ sym (left_none (length rest) left' (ltb-true left' (length rest) e))
        over false e =
            left_some (length (part ++ rest)) left (omega (arith, length-append part rest, ltb-false left' (length rest) e, back))
            ∙ ap some (omega (arith, length-append part rest, back))
            ∙ sym (left_some (length rest) left' (ltb-false left' (length rest) e))
