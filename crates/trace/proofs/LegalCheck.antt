-- What the answer of a trace check says of the releases: they are legal, or those before the first that is too close are, and with it those of
-- its task are not.
use Prim.Native.Nat.{ℕ, zero, suc, ◌+◌, ◌≤◌, ◌<◌}
use mathlib.Core.Path.{◌≡◌, refl, sym, ap, ◌∙◌}
use mathlib.Core.Bool.{false}
use mathlib.Core.Option.{some, none}
use mathlib.Core.List.{List, [], ◌∷◌, ◌++◌, reverse, reverse-append, reverse-reverse}
use mathlib.Core.Logic.{dite}
use native.Mathlib.Omega.{arith}
use native.Mathlib.Decide.{dec_lt}
use borrow.Author.Tests.{ltb-false}
use lib.ListN.{length, get_or, take, drop, length-append, take-append-drop, get_or-append}
use lib.Seq.{take-length}
use Rattle.model.specs.Tasks.{Tasks, Release, release_at}
use Rattle.model.specs.Gap.{own, Apart, Legal}
use Rattle.model.specs.Ready.{after, ready_next, ready_ticks}
use Rattle.model.specs.Legality.{too_close, first_close}
use Rattle.model.specs.Claims.{Trace}
use Rattle.model.proofs.SearchLaws.{Found, first_found, first_none, first_nothing}
use Rattle.shaper.proofs.History.{history_of, legal_ready, ready_legal}
use Rattle.shaper.proofs.ShaperLaws.{history_none}
use Rattle.trace.proofs.PositionLaws.{own_append, Held, held}
use Rattle.trace.proofs.StandingLaws.{history_at, history_next, own_next}
use Rattle.trace.proofs.CloseLaws.{Still, close_is, close_no, still_next}

-- releases of a task that the shaper with the full jitter does not move are legal, and only those
unmoved_legal : (P J : ℕ) (a : List ℕ) → history_of P J a ≡ reverse a → Apart P J a
unmoved_legal P J a e = ready_legal P J a (sym (reverse-reverse (ready_ticks P J a)) ∙ ap reverse e ∙ reverse-reverse a)

legal_unmoved : (P J : ℕ) (a : List ℕ) → Apart P J a → history_of P J a ≡ reverse a
legal_unmoved P J a h = ap reverse (legal_ready P J a h)

module _ (s : Tasks) (l : List Release) where
  -- one release more, where those before it are legal
  module _ (p : ℕ) (h : p < length l) (still : Still s l p) where
    abbrev i : ℕ
    i = (release_at l p).task

    abbrev a : ℕ
    a = (release_at l p).tick

    stays : too_close s l p ≡ false → ready_next (s.period i) (s.jitter i) (history_at s s.jitter l p i) a ≤ a
    unfolding ready_next
    stays e = omega (arith, ltb-false a (after (s.period i) (s.jitter i) (history_at s s.jitter l p i) 1) (sym (close_is s l p i a h refl refl still) ∙ e))

    -- its task's releases stay legal only where it is not too close
    not_close : Legal s (take (suc p) l) i → too_close s l p ≡ false
    not_close g = close_no s l p i a h refl refl still (omega (arith, same))
      where
        pairs : ready_next (s.period i) (s.jitter i) (history_at s s.jitter l p i) a ∷ history_at s s.jitter l p i ≡ a ∷ reverse (own i (take p l))
        pairs =
            sym (history_next s s.jitter l p i a h refl refl)
            ∙ legal_unmoved (s.period i) (s.jitter i) (own i (take (suc p) l)) g
            ∙ ap reverse (own_next l p h i a refl refl)
            ∙ reverse-append (own i (take p l)) (a ∷ [])

        same : ready_next (s.period i) (s.jitter i) (history_at s s.jitter l p i) a ≡ a
        same = cc pairs

  -- where no release before p is too close, they are legal
  still_to : (p : ℕ) → p ≤ length l → ((q : ℕ) → q < p → too_close s l q ≡ false) → Still s l p
  unfolding own
  still_to zero h f = λ i. history_none (s.period i) (s.jitter i)
  still_to (suc p) h f =
      let st : Still s l p = still_to p (omega arith) (λ q g. f q (omega arith)) in
      still_next s l p _ _ h refl refl st (stays p h st (f p (omega arith)))

  legal_to : (p : ℕ) → Still s l p → (i : ℕ) → Legal s (take p l) i
  legal_to p st i = unmoved_legal (s.period i) (s.jitter i) (own i (take p l)) (st i)

  -- the first releases of legal ones are legal
  legal_take : (p i : ℕ) → Legal s l i → Legal s (take p l) i
  legal_take p i g m k h =
      rw (← first m (omega arith), ← first (m + k) h)
      (g m k (omega (arith, ap length split, length-append (own i (take p l)) (own i (drop p l)))))
    where
      split : own i l ≡ own i (take p l) ++ own i (drop p l)
      split = ap (own i) (sym (take-append-drop p l)) ∙ own_append i (take p l) (drop p l)

      first : (q : ℕ) → q < length (own i (take p l)) → get_or (own i l) q 0 ≡ get_or (own i (take p l)) q 0
      first q c = ap (λ (x : List ℕ). get_or x q 0) split ∙ get_or-append (own i (take p l)) (own i (drop p l)) 0 q c

  -- the answer "legal"
  pub legal_check : first_close s l ≡ none → (i : ℕ) → Legal s l i
  unfolding first_close
  legal_check e i =
      rw (take-length l) at
      (legal_to (length l) (still_to (length l) (omega arith) (λ q g. first_nothing (too_close s l) (length l) 0 e q (omega arith) (omega arith))) i)

  pub check_legal : ((i : ℕ) → Legal s l i) → first_close s l ≡ none
  unfolding first_close
  check_legal g = first_none (too_close s l) (length l) 0 (λ p a h. not_close p (omega arith) (stills p) (legal_take (suc p) _ (g _)))
    where
      stills : (p : ℕ) → Still s l p
      stills p i = legal_unmoved (s.period i) (s.jitter i) (own i (take p l)) (legal_take p i (g i))

-- a trace has no release of a task that is not in the set, so it passes where the releases of each task of the set are legal
pub trace_check : (s : Tasks) (l : List Release) → Trace s l → ((i : ℕ) → i < s.count → Legal s l i) → first_close s l ≡ none
trace_check s l tr g = check_legal s l (λ i. dite (dec_lt i s.count) (g i) (λ n m k h. absurd (n (known i (held l i (m + k) h)))))
  where
    known : (i : ℕ) {x : ℕ} → Held l i x → i < s.count
    known i d = rw d.of_task at (tr.sound d.at d.inside).known

-- the first release that is too close
pub record FirstClose (s : Tasks) (l : List Release) (p : ℕ) : Type 0 where
  pub inside : p < length l
  pub before : (i : ℕ) → Legal s (take p l) i
  pub here : Legal s (take (suc p) l) (release_at l p).task → ⊥

-- the answer "too close"
pub close_check : (s : Tasks) (l : List Release) (p : ℕ) → first_close s l ≡ some p → FirstClose s l p
unfolding first_close
close_check s l p e = go (first_found (too_close s l) (length l) 0 p e)
  where
    go : Found (too_close s l) (length l) 0 p → FirstClose s l p
    go f =
        let st : Still s l p = still_to s l p (omega arith) (λ q g. f.before q (omega arith) g) in
        record {
          inside = omega arith;
          before = legal_to s l p st;
          here = λ g. let c = sym f.holds ∙ not_close s l p (omega arith) st g in let z : ◌≡◌ {A = ℕ} 0 1 = cc in omega arith;
        }
