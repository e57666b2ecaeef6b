-- Which release may follow a list: one that keeps the releases of its task legal.
use Prim.Native.Nat.{ℕ, ◌+◌, ◌≤◌}
use mathlib.Core.Path.{◌≡◌, refl, sym, ap, ap₂, subst, ◌∙◌}
use mathlib.Core.Bool.{true}
use mathlib.Core.Logic.{dite}
use mathlib.Core.List.{List, [], ◌∷◌, ◌++◌, reverse, reverse-append, reverse-reverse, append-nil}
use native.Mathlib.Omega.{arith}
use native.Mathlib.Decide.{ℕ_discrete}
use borrow.Author.Tests.{ne_eqb, le-leb, leb-true}
use lib.ListN.{length-append, get_or-append}
use Rattle.model.specs.Tasks.{Tasks, Release}
use Rattle.model.specs.Gap.{own, Apart, Legal}
use Rattle.model.specs.Ready.{after, ready_next}
use Rattle.shaper.proofs.History.{history_of, history_snoc, legal_ready, ready_legal}
use Rattle.trace.proofs.PositionLaws.{own_append, own_same}
use Rattle.enumeration.specs.SmallTraces.{may_follow}

-- ticks of one task's releases
module _ (P J : ℕ) (a : List ℕ) where
  -- those before are legal where all are
  pub apart_before : (b : List ℕ) → Apart P J (a ++ b) → Apart P J a
  apart_before b g m k h =
      rw (← get_or-append a b 0 m (omega arith), ← get_or-append a b 0 (m + k) h) (g m k (omega (arith, length-append a b)))

  module _ (x : ℕ) where
    last_first : reverse (a ++ (x ∷ [])) ≡ x ∷ reverse a
    last_first = reverse-append a (x ∷ [])

    -- with one more tick they stay legal where it lies at least d_J(k) after the one k places before, for every k ..
    pub apart_next : Apart P J a → after P J (reverse a) 1 ≤ x → Apart P J (a ++ (x ∷ []))
    unfolding ready_next
    apart_next g h = ready_legal P J (a ++ (x ∷ [])) (sym (reverse-reverse _) ∙ ap reverse unmoved ∙ reverse-reverse _)
      where
        before : history_of P J a ≡ reverse a
        before = ap reverse (legal_ready P J a g)

        here : ready_next P J (history_of P J a) x ≡ x
        here = rw before (omega arith)

        unmoved : history_of P J (a ++ (x ∷ [])) ≡ reverse (a ++ (x ∷ []))
        unmoved = history_snoc P J a x ∙ ap₂ (λ (y : ℕ) (h : List ℕ). y ∷ h) here before ∙ sym last_first

    -- .. and only there
    pub next_after : Apart P J (a ++ (x ∷ [])) → after P J (reverse a) 1 ≤ x
    unfolding ready_next
    next_after g = omega (arith, here)
      where
        pairs : ready_next P J (history_of P J a) x ∷ history_of P J a ≡ x ∷ reverse a
        pairs = sym (history_snoc P J a x) ∙ ap reverse (legal_ready P J (a ++ (x ∷ [])) g) ∙ last_first

        before : history_of P J a ≡ reverse a
        before = cc pairs

        moved : ready_next P J (history_of P J a) x ≡ x
        moved = cc pairs

        here : ready_next P J (reverse a) x ≡ x
        here = rw before at moved

module _ (s : Tasks) (l : List Release) where
  -- the first releases of legal ones are legal
  pub legal_before : (r : List Release) (i : ℕ) → Legal s (l ++ r) i → Legal s l i
  legal_before r i g = apart_before (s.period i) (s.jitter i) (own i l) (own i r) (rw own_append at g)

  module _ (r : Release) where
    -- the ticks of its task, and of another one, with one more release
    own_here : own r.task (l ++ (r ∷ [])) ≡ own r.task l ++ (r.tick ∷ [])
    unfolding own
    own_here = own_append r.task l (r ∷ []) ∙ ap (λ (x : List ℕ). own r.task l ++ x) (own_same r.task r [] refl)

    own_other : (i : ℕ) → (r.task ≡ i → ⊥) → own i (l ++ (r ∷ [])) ≡ own i l
    unfolding own
    own_other i n = own_append i l (r ∷ []) ∙ ap (λ (x : List ℕ). own i l ++ x) (rw (own, ne_eqb r.task i n)) ∙ append-nil (own i l)

    -- a release that may follow keeps the releases of every task legal
    pub follow_legal : may_follow s l r ≡ true → (i : ℕ) → Legal s l i → Legal s (l ++ (r ∷ [])) i
    unfolding may_follow
    follow_legal e i g = dite (ℕ_discrete r.task i) same (λ n. rw (own_other i n) g)
      where
        here : Legal s l r.task → Legal s (l ++ (r ∷ [])) r.task
        here h = rw own_here (apart_next (s.period r.task) (s.jitter r.task) (own r.task l) r.tick h (leb-true _ _ e))

        same : r.task ≡ i → Legal s (l ++ (r ∷ [])) i
        same c = subst (Legal s (l ++ (r ∷ []))) c (here (subst (Legal s l) (sym c) g))

    -- one that keeps those of its task legal may follow
    pub legal_follow : Legal s (l ++ (r ∷ [])) r.task → may_follow s l r ≡ true
    unfolding may_follow
    legal_follow g = le-leb _ _ (next_after (s.period r.task) (s.jitter r.task) (own r.task l) r.tick (rw own_here at g))
