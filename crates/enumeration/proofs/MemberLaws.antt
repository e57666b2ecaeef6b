-- The member at a position, and what an answer tells of its length.
use Prim.Native.Nat.{ℕ, zero, suc, ◌≤◌, ◌<◌}
use mathlib.Core.Path.{◌≡◌, refl}
use mathlib.Core.Option.{Option, some, none}
use mathlib.Core.List.{List, [], ◌∷◌}
use native.Mathlib.Omega.{arith}
use lib.ListN.{length, get_or}
use Rattle.model.specs.Tasks.{Release}
use Rattle.model.specs.Refusal.{Refusal, Answer, refused, answered}
use Rattle.enumeration.specs.SmallCalls.{member_at, length_in}

-- the member at a position, and past the last
pub member_at_lem : {A : Type 0} (d : A) (l : List A) (p : ℕ) → p < length l → member_at l p ≡ some (get_or l p d)
unfolding member_at
member_at_lem d [] p h = absurd (omega arith)
member_at_lem d (a ∷ l) zero h = refl
member_at_lem d (a ∷ l) (suc p) h = member_at_lem d l p (omega arith)

pub member_past : {A : Type 0} (l : List A) (p : ℕ) → length l ≤ p → member_at l p ≡ none
unfolding member_at
member_past [] p h = refl
member_past (a ∷ l) zero h = absurd (omega arith)
member_past (a ∷ l) (suc p) h = member_past l p (omega arith)

-- a member stands at a position of the list
pub member_of : {A : Type 0} (d : A) (l : List A) (p : ℕ) (a : A) → member_at l p ≡ some a → (p < length l) × (get_or l p d ≡ a)
unfolding member_at
member_of d [] p a e = let z : ◌≡◌ {A = ℕ} 0 1 = cc in absurd (omega arith)
member_of d (b ∷ l) zero a e = (omega arith, cc)
member_of d (b ∷ l) (suc p) a e = let w = member_of d l p a e in (omega (arith, w.0), w.1)

-- an answer by what it tells of its length
pub length_refused : (a : Answer (Option (List Release))) (r : Refusal) → refused r ≡ length_in a → a ≡ refused r
unfolding length_in
length_refused (refused q) r e = cc
length_refused (answered none) r e = let z : ◌≡◌ {A = ℕ} 0 1 = cc in absurd (omega arith)
length_refused (answered (some l)) r e = let z : ◌≡◌ {A = ℕ} 0 1 = cc in absurd (omega arith)

pub length_past : (a : Answer (Option (List Release))) → answered none ≡ length_in a → a ≡ answered none
unfolding length_in
length_past (refused q) e = let z : ◌≡◌ {A = ℕ} 0 1 = cc in absurd (omega arith)
length_past (answered none) e = refl
length_past (answered (some l)) e = let z : ◌≡◌ {A = ℕ} 0 1 = cc in absurd (omega arith)

-- a trace of n releases
pub record Holding (a : Answer (Option (List Release))) (n : ℕ) : Type 0 where
  pub trace : List Release
  pub is : a ≡ answered (some trace)
  pub long : length trace ≡ n

pub length_trace : (a : Answer (Option (List Release))) (n : ℕ) → answered (some n) ≡ length_in a → Holding a n
unfolding length_in
length_trace (refused q) n e = let z : ◌≡◌ {A = ℕ} 0 1 = cc in absurd (omega arith)
length_trace (answered none) n e = let z : ◌≡◌ {A = ℕ} 0 1 = cc in absurd (omega arith)
length_trace (answered (some l)) n e = record { trace = l; is = refl; long = cc }
