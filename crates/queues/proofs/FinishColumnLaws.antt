-- The column of finish ticks while a run goes on: the jobs that are finished have theirs, and the slots past the list what they held.
use Prim.Native.Nat.{ℕ, zero, suc, ◌≤◌, ◌<◌}
use mathlib.Core.Path.{◌≡◌, refl, sym, ap₂, ◌∙◌}
use mathlib.Core.Logic.{◌⊎◌, inl, inr}
use mathlib.Core.List.{List, [], ◌∷◌, ◌++◌}
use native.Mathlib.Omega.{arith}
use lib.ListN.{length, get_or, set, take, drop, length-set, take-append-drop}
use lib.Seq.{take-suc, get_or-set_same, get_or-set_other, drop-set-lt}
use Rattle.model.specs.Series.{table}
use Rattle.model.specs.Run.{Jobs, left_at, finish_of}
use Rattle.theory.proofs.RunLaws.{left_zero}
use Rattle.theory.proofs.JumpLaws.{same_or}

-- at the beginning of tick t, of a column that held `held`
pub record Written (j : Jobs) (t : ℕ) (finish held : List ℕ) : Type 0 where
  pub long : length finish ≡ length held
  pub enough : j.count ≤ length held
  pub each : (p : ℕ) → p < j.count → left_at j t p ≡ 0 → get_or finish p 0 ≡ finish_of j p
  pub past : drop j.count finish ≡ drop j.count held

-- before the first tick no job is finished
pub written_start : (j : Jobs) (held : List ℕ) → j.count ≤ length held → ((p : ℕ) → p < j.count → 1 ≤ j.work p) → Written j 0 held held
written_start j held e w = record { long = refl; enough = e; each = λ p l z. absurd (omega (arith, left_zero j p, w p l)); past = refl }

module _ (j : Jobs) (t : ℕ) (finish held : List ℕ) (w : Written j t finish held) where
  -- at another tick u at which every job has the same work left
  pub written_rest : (u : ℕ) → ((q : ℕ) → left_at j u q ≡ left_at j t q) → Written j u finish held
  written_rest u same = record { long = w.long; enough = w.enough; each = λ q l z. w.each q l (sym (same q) ∙ z); past = w.past }

  -- at another tick u at which every job has the same work left but for p
  module _ (u p : ℕ) (other : (q : ℕ) → (q ≡ p → ⊥) → left_at j u q ≡ left_at j t q) where
    -- which is unfinished
    pub written_run : 0 < left_at j u p → Written j u finish held
    written_run pos = record { long = w.long; enough = w.enough; each = λ q l z. kept q l z (same_or q p); past = w.past }
      where
        kept : (q : ℕ) → q < j.count → left_at j u q ≡ 0 → (q ≡ p) ⊎ (q ≡ p → ⊥) → get_or finish q 0 ≡ finish_of j q
        kept q l z (inl x) = let y : left_at j u p ≡ 0 = rw x at z in absurd (omega arith)
        kept q l z (inr n) = w.each q l (sym (other q n) ∙ z)

    -- which finished at u
    pub written_done : p < j.count → finish_of j p ≡ u → Written j u (set finish p u) held
    written_done inside e =
        record {
          long = length-set finish p u ∙ w.long;
          enough = w.enough;
          each = λ q l z. put q l z (same_or q p);
          past = drop-set-lt j.count finish p u inside ∙ w.past;
        }
      where
        put : (q : ℕ) → q < j.count → left_at j u q ≡ 0 → (q ≡ p) ⊎ (q ≡ p → ⊥) → get_or (set finish p u) q 0 ≡ finish_of j q
        put q l z (inl x) = rw x (get_or-set_same finish p u 0 (omega (arith, w.long, w.enough)) ∙ sym e)
        put q l z (inr n) = get_or-set_other finish p q u 0 n ∙ w.each q l (sym (other q n) ∙ z)

-- the first n slots of a column are a table
take_table : (f : ℕ → ℕ) (n : ℕ) (l : List ℕ) → n ≤ length l → ((p : ℕ) → p < n → get_or l p 0 ≡ f p) → take n l ≡ table f n
unfolding table
take_table f zero l h g = refl
take_table f (suc n) l h g =
    take-suc l n 0 h ∙ ap₂ (λ x y. x ++ (y ∷ [])) (take_table f n l (omega arith) (λ p a. g p (omega arith))) (g n (omega arith))

-- once every job is finished
pub written_end
    : (j : Jobs) (t : ℕ) (finish held : List ℕ) → Written j t finish held → ((p : ℕ) → p < j.count → left_at j t p ≡ 0)
    → finish ≡ table (finish_of j) j.count ++ drop j.count held
written_end j t finish held w h =
    sym (take-append-drop j.count finish)
    ∙ ap₂ ◌++◌ (take_table (finish_of j) j.count finish (omega (arith, w.long, w.enough)) (λ p l. w.each p l (h p l))) w.past
