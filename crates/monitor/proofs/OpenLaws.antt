-- The first slots of a window that is opened, written one after the other.
use Prim.Native.Nat.{ℕ, suc, ◌+◌, ◌≤◌, ◌<◌}
use mathlib.Core.Path.{◌≡◌, refl, sym, ap, ◌∙◌}
use mathlib.Core.List.{List, [], ◌∷◌, ◌++◌}
use native.Mathlib.Omega.{arith}
use native.Mathlib.Numerals.{add-one}
use lib.ListN.{length, get_or, drop, set, length-set}
use lib.Seq.{drop-cons, set_at, append_snoc, drop-set-lt}
use Rattle.model.specs.Limits.{max_tasks}
use Rattle.model.specs.Series.{table}
use Rattle.model.proofs.TableLaws.{length_table}
use Rattle.monitor.specs.Layout.{window_slots}

-- the number of tasks, no job and the deadlines of the first i of n tasks are written
pub record Opening (n : ℕ) (D : ℕ → ℕ) (w₀ w : List ℕ) (i : ℕ) : Type 0 where
  pub few : n ≤ max_tasks
  pub long : window_slots ≤ length w₀
  pub low : i ≤ n
  pub same : length w ≡ length w₀
  pub is : w ≡ (n ∷ 0 ∷ table D i) ++ drop (2 + i) w₀

module _ (n : ℕ) (D : ℕ → ℕ) where
  pub opening_none : (w : List ℕ) → n ≤ max_tasks → window_slots ≤ length w → Opening n D (set (set w 0 n) 1 0) (set (set w 0 n) 1 0) 0
  unfolding table
  opening_none [] f h = absurd (omega arith)
  opening_none (a ∷ []) f h = absurd (omega arith)
  opening_none (a ∷ b ∷ w) f h = record { few = f; long = h; low = omega arith; same = refl; is = refl }

  pub opening_next : (w₀ w : List ℕ) (i v : ℕ) → Opening n D w₀ w i → i < n → v ≡ D i → Opening n D w₀ (set w (2 + i) v) (i + 1)
  unfolding table
  opening_next w₀ w i v f h e =
      record {
        few = f.few;
        long = f.long;
        low = omega arith;
        same = length-set w (2 + i) v ∙ f.same;
        is = rw (add-one, past, e, f.is, drop-cons w₀ (2 + i) 0 (omega (arith, f.few, f.long))) (put ∙ sym (append_snoc (n ∷ 0 ∷ table D i) (D i) (drop (suc (2 + i)) w₀)));
      }
    where
      past : 2 + suc i ≡ suc (2 + i)
      past = omega arith

      put : set ((n ∷ 0 ∷ table D i) ++ get_or w₀ (2 + i) 0 ∷ drop (suc (2 + i)) w₀) (2 + i) (D i) ≡ (n ∷ 0 ∷ table D i) ++ D i ∷ drop (suc (2 + i)) w₀
      put = set_at (n ∷ 0 ∷ table D i) (get_or w₀ (2 + i) 0) (drop (suc (2 + i)) w₀) (D i) (2 + i) (omega (arith, length_table D i))

  -- all of them: what stood past them stands there still
  pub opening_all
      : (w w' : List ℕ) (i : ℕ) → Opening n D (set (set w 0 n) 1 0) w' i → n ≤ i → w' ≡ (n ∷ 0 ∷ table D n) ++ drop (2 + n) w
  opening_all w w' i f h =
      let e : i ≡ n = omega (arith, f.low) in
      f.is
      ∙ ap (λ k. (n ∷ 0 ∷ table D k) ++ drop (2 + k) (set (set w 0 n) 1 0)) e
      ∙ ap (λ l. (n ∷ 0 ∷ table D n) ++ l) (drop-set-lt (2 + n) (set w 0 n) 1 0 (omega arith) ∙ drop-set-lt (2 + n) w 0 n (omega arith))
