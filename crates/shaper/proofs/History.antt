-- The history of a task: the ready ticks of its earlier jobs, the latest first. What it says about the jobs that follow.
use Prim.Native.Nat.{ℕ}
use mathlib.Core.Path.{◌≡◌, refl, sym, ap, ◌∙◌}
use mathlib.Core.List.{List, [], ◌∷◌, ◌++◌, reverse_aux}
use native.Mathlib.Omega.{arith}
use lib.ListN.{length, get_or}
use lib.Seq.{get_or_at}
use Rattle.model.specs.Gap.{Apart}
use Rattle.model.specs.Ready.{ready_next, ready_from, ready_ticks}
use Rattle.shaper.proofs.ReadyLaws.{ready_length, ready_apart, ready_only}

-- the history after the releases a, which follow the history h
abbrev pub history_from : ℕ → ℕ → List ℕ → List ℕ → List ℕ
history_from P K h a = reverse_aux (ready_from P K h a) h

-- the history after the releases a
abbrev pub history_of : ℕ → ℕ → List ℕ → List ℕ
history_of P K a = history_from P K [] a

module _ (P K : ℕ) where
  -- more releases: the ready ticks of the first ones stay, and the others follow their history
  pub ready_from_append : (h a b : List ℕ) → ready_from P K h (a ++ b) ≡ ready_from P K h a ++ ready_from P K (history_from P K h a) b
  unfolding ready_from
  ready_from_append h [] b = refl
  ready_from_append h (x ∷ a) b = ap (λ (l : List ℕ). ready_next P K h x ∷ l) (ready_from_append (ready_next P K h x ∷ h) a b)

  pub history_from_append : (h a b : List ℕ) → history_from P K h (a ++ b) ≡ history_from P K (history_from P K h a) b
  unfolding ready_from
  history_from_append h [] b = refl
  history_from_append h (x ∷ a) b = history_from_append (ready_next P K h x ∷ h) a b

  pub ready_append : (a b : List ℕ) → ready_ticks P K (a ++ b) ≡ ready_ticks P K a ++ ready_from P K (history_of P K a) b
  ready_append = ready_from_append []

  pub history_snoc : (a : List ℕ) (x : ℕ) → history_of P K (a ++ (x ∷ [])) ≡ ready_next P K (history_of P K a) x ∷ history_of P K a
  unfolding ready_from
  history_snoc a x = history_from_append [] a (x ∷ [])

  -- the ready tick of a release, by the history of those before it, whatever follows
  pub ready_here : (a : List ℕ) (x : ℕ) (b : List ℕ) → get_or (ready_ticks P K (a ++ (x ∷ b))) (length a) 0 ≡ ready_next P K (history_of P K a) x
  unfolding ready_from
  ready_here a x b =
      ap (λ (l : List ℕ). get_or l (length a) 0) (ready_append a (x ∷ b))
      ∙ get_or_at (ready_ticks P K a) (ready_next P K (history_of P K a) x) _ 0 (length a) (ready_length P K a)

  -- releases that are legal for a jitter K are not moved by the shaper that keeps K ..
  pub legal_ready : (a : List ℕ) → Apart P K a → ready_ticks P K a ≡ a
  legal_ready a h =
      sym (ready_only P K a a (record { long = refl; not_before = λ n l. omega arith; apart = h; least = λ n t l g b. g }))

  -- .. and only those are not
  pub ready_legal : (a : List ℕ) → ready_ticks P K a ≡ a → Apart P K a
  ready_legal a e m k l = rw e at (ready_apart P K a m k l)
