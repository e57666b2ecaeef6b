-- A list filled slot by slot, and a column filled from a row of bytes.
use Prim.Native.Nat.{ℕ, zero, suc, ◌+◌, ◌*◌, ◌/◌, ◌≤◌, ◌<◌, min}
use mathlib.Core.Path.{◌≡◌, refl, sym, ap, subst, ◌∙◌}
use mathlib.Core.List.{List}
use mathlib.Core.Logic.{dite}
use native.Mathlib.Decide.{dec_lt}
use native.Mathlib.Omega.{arith}
use lib.ListN.{length, get_or, set, length-set, drop}
use lib.Seq.{get_or-set_same, get_or-set_other, drop-set-lt, drop-drop}
use denote.Param.Members.{Mut, Called}
use Rattle.std.specs.Array.{IsFromFnResult, IsFromFnResultFrom}
use Rattle.cases.specs.Cases.{Filled, Numbers}

-- one slot more
pub filled_next : {A : Type 0} (f : ℕ → A) (d : A) (n : ℕ) (l : List A) (v : A) → n < length l → v ≡ f n → Filled f d n l → Filled f d (n + 1) (set l n v)
filled_next f d n l v h e g i b =
    dite (dec_lt i n)
    (λ x. get_or-set_other l n i v d (λ e. omega arith) ∙ g i x)
    (λ x. let same : i ≡ n = omega arith in rw same (get_or-set_same l n v d h ∙ e))

-- a closure that its calls leave as it was fills a list slot by slot
module _
    {F A : Type 0} (g : Mut F (ℕ × Unit {0}) A) (s : F) (f : ℕ → A) (d : A)
    (same : (i : ℕ) (v : A) (q : F) → Called g s (i, tt) v q → (q ≡ s) × (v ≡ f i)) where
  filled_from : (l : List A) (i n k : ℕ) (p : F) → p ≡ s → IsFromFnResultFrom g p l i n → i ≤ k → k < i + n → get_or l k d ≡ f k
  filled_from l i zero k p e m a b = absurd (omega arith)
  filled_from l i (suc n) k p e m a b =
      let t = same i m.1 m.0 (subst (λ x. Called g x (i, tt) m.1 m.0) e m.3) in
      dite (dec_lt i k)
      (λ x. filled_from l (i + 1) n k m.0 t.0 m.4 (omega arith) (omega arith))
      (λ x. let is : i ≡ k = omega arith in subst (λ j. get_or l j d ≡ f j) is (m.2.1 d ∙ t.1))

  pub filled_by_calls : (l : List A) (n : ℕ) → IsFromFnResult g s l n → Filled f d n l
  filled_by_calls l n m = λ k b. filled_from l 0 n k s refl m.each (omega arith) (omega arith)

-- the slots past it hold what they held
pub rest_next : {A : Type 0} (n : ℕ) (l held : List A) (v : A) → drop n l ≡ drop n held → drop (n + 1) (set l n v) ≡ drop (n + 1) held
rest_next n l held v e = drop-set-lt (n + 1) l n v (omega arith) ∙ sym (drop-drop 1 n l) ∙ ap (drop 1) e ∙ drop-drop 1 n held

-- of the n numbers of w bytes in a row of bytes the first i stand in a column
pub record Filling (w : ℕ) (reading : List ℕ → ℕ → ℕ) (s held : List ℕ) (n i : ℕ) (column : List ℕ) : Type 0 where
  pub turns : i ≤ n
  pub bytes : w * n ≤ length s
  pub slots : i ≤ length column
  pub long : length column ≡ length held
  pub each : Filled (λ k. reading s (w * k)) 0 i column
  pub rest : drop i column ≡ drop i held

pub filling_start : (w : ℕ) (reading : List ℕ → ℕ → ℕ) (s held : List ℕ) (n : ℕ) → w * n ≤ length s → Filling w reading s held n 0 held
filling_start w reading s held n h = record {
  turns = omega arith;
  bytes = h;
  slots = omega arith;
  long = refl;
  each = λ k b. absurd (omega arith);
  rest = refl;
}

pub filling_next
    : (w : ℕ) (reading : List ℕ → ℕ → ℕ) (s held : List ℕ) (n i : ℕ) (column : List ℕ) (v : ℕ)
    → i < n → i < length column → v ≡ reading s (w * i) → Filling w reading s held n i column
    → Filling w reading s held n (i + 1) (set column i v)
filling_next w reading s held n i column v h room e f = record {
  turns = omega arith;
  bytes = f.bytes;
  slots = simp length-set (omega arith);
  long = simp length-set f.long;
  each = filled_next (λ k. reading s (w * k)) 0 i column v room e f.each;
  rest = rest_next i column held v f.rest;
}

pub filling_end
    : (w : ℕ) (reading : List ℕ → ℕ → ℕ) (s held : List ℕ) (n i : ℕ) (column : List ℕ)
    → i ≡ min (length s / w) (length held) → Filling w reading s held n i column → Numbers w reading s held i column
filling_end w reading s held n i column e f = record { count = e; each = f.each; rest = f.rest }
