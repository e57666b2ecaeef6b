-- With a count or a tick bound of 0 there is the empty trace alone: proves EmptyAlone of specs/EveryTrace.antt.
use Prim.Native.Nat.{ℕ, zero, suc, ◌-◌, ◌*◌}
use mathlib.Core.Path.{◌≡◌, refl, ap, ◌∙◌}
use mathlib.Core.Logic.{inl, inr}
use mathlib.Core.List.{List, [], ◌∷◌, ◌++◌}
use native.Mathlib.Omega.{arith}
use native.Mathlib.Nat.{zero-mul}
use Rattle.model.specs.Tasks.{Tasks}
use Rattle.enumeration.specs.SmallTraces.{joined, extended, traces_of, small_traces}
use Rattle.enumeration.specs.EveryTrace.{EmptyAlone}

-- lists joined that are all empty
joined_empty : {A : Type 0} (f : ℕ → List A) (x m : ℕ) → ((y : ℕ) → f (suc y) ≡ []) → joined f (suc x) m ≡ []
unfolding joined
joined_empty f x zero h = refl
joined_empty f x (suc m) h = ap (λ l. l ++ joined f (suc (suc x)) m) (h x) ∙ joined_empty f (suc x) m h

-- no tick: no trace of one release or more
no_tick : (s : Tasks) (n : ℕ) → traces_of s 0 (suc n) ≡ []
unfolding traces_of extended joined
no_tick s n = let e : 0 * s.count - 0 ≡ 0 = omega (arith, zero-mul s.count) in ap (joined _ 0) e

-- the empty trace alone
pub empty_alone : EmptyAlone
unfolding small_traces traces_of extended joined
empty_alone s n t (inl e) = ap (λ k. small_traces s k t) e
empty_alone s n t (inr e) =
    ap (small_traces s n) e ∙ ap (λ l. ([] ∷ []) ++ l) (joined_empty (traces_of s 0) 0 n (no_tick s))
