-- Laws of written texts.
use Prim.Native.Nat.{ℕ, zero, suc, ◌+◌, ◌/◌, ◌%◌, ◌^◌, ◌≤◌, ◌<◌}
use mathlib.Core.Path.{◌≡◌, refl, sym, ap, ◌∙◌}
use mathlib.Core.Bool.{Bool, true, false}
use mathlib.Core.List.{List, [], ◌∷◌, ◌++◌}
use native.Mathlib.Omega.{arith}
use native.Mathlib.Nat.{add-suc, suc-add, add-zero}
use lib.ListN.{length, length-append, set, take, drop}
use lib.Seq.{sets, sets-eq, length-sets, take_all}
use borrow.Rule.Slice.PartMut.{put_mid}
use Rattle.std.proofs.lemmas.Slice.{put_mid-paste}
use lib.Dec.{ltb}
use borrow.Author.Tests.{lt-ltb, le-ltb, ltb-true, ltb-false}
use Rattle.text.specs.Text.{digits, decimal, field, Put, PutField}

-- two texts one after the other are one text
pub sets_append : (l : List ℕ) (i : ℕ) (a b : List ℕ) → sets (sets l i a) (i + length a) b ≡ sets l i (a ++ b)
sets_append l i [] b = ap (λ (k : ℕ). sets l k b) (add-zero i)
sets_append l i (x ∷ a) b =
    ap (λ (k : ℕ). sets (sets (set l i x) (suc i) a) k b) (add-suc i (length a) ∙ sym (suc-add i (length a)))
    ∙ sets_append (set l i x) (suc i) a b

pub put_append : (l : List ℕ) (i : ℕ) (a m : List ℕ) (r : ℕ) (b n : List ℕ) (t : ℕ) → Put l i a m r → Put m r b n t → Put l i (a ++ b) n t
put_append l i a m r b n t p q =
    record {
      holds = q.holds ∙ ap (λ (x : List ℕ). sets x r b) p.holds ∙ ap (λ (k : ℕ). sets (sets l i a) k b) p.next ∙ sets_append l i a b;
      next = q.next ∙ ap (λ (k : ℕ). k + length b) p.next ∙ (let e = length-append a b in omega arith);
    }

-- a written buffer is as long as it was
pub put_length : (l : List ℕ) (i : ℕ) (a m : List ℕ) (r : ℕ) → Put l i a m r → length m ≡ length l
put_length l i a m r p = ap length p.holds ∙ length-sets l i a

-- more digits than there are do not matter
digits_more : (f g n : ℕ) → n < f → n < g → digits f n ≡ digits g n
unfolding digits
digits_more zero g n hf hg = absurd (omega arith)
digits_more (suc f) zero n hf hg = absurd (omega arith)
digits_more (suc f) (suc g) n hf hg = go (ltb n 10) refl (digits_more f g (n / 10))
  where
    go : (b : Bool) → ltb n 10 ≡ b → (n / 10 < f → n / 10 < g → digits f (n / 10) ≡ digits g (n / 10)) → digits (suc f) n ≡ digits (suc g) n
    go true h ih = rw (digits, h)
    go false h ih = let l : 10 ≤ n = ltb-false n 10 h in rw (digits, h, ih (omega arith) (omega arith))

pub decimal_one : (n : ℕ) → n < 10 → decimal n ≡ (48 + n) ∷ []
unfolding decimal digits
decimal_one n h = rw (decimal, digits, lt-ltb n 10 h)

pub decimal_more : (n : ℕ) → 10 ≤ n → decimal n ≡ decimal (n / 10) ++ ((48 + n % 10) ∷ [])
unfolding decimal digits
decimal_more n h = rw (decimal, digits, le-ltb n 10 h, digits_more n (suc (n / 10)) (n / 10) (omega arith) (omega arith))

pub decimal_some : (n : ℕ) → n < 10 → length (decimal n) ≡ 1
decimal_some n h = ap length (decimal_one n h)

pub decimal_last : (n : ℕ) → 10 ≤ n → length (decimal n) ≡ length (decimal (n / 10)) + 1
decimal_last n h = ap length (decimal_more n h) ∙ length-append (decimal (n / 10)) ((48 + n % 10) ∷ [])

-- a number below 10^(k + 1) has at most k + 1 digits
pub decimal_below : (n k : ℕ) → n < 10 ^ suc k → length (decimal n) ≤ suc k
decimal_below n zero h = omega (arith, decimal_some n (omega arith))
decimal_below n (suc k) h = go (ltb n 10) refl (decimal_below (n / 10) k)
  where
    go : (b : Bool) → ltb n 10 ≡ b → (n / 10 < 10 ^ suc k → length (decimal (n / 10)) ≤ suc k) → length (decimal n) ≤ suc (suc k)
    go true e ih = omega (arith, decimal_some n (ltb-true n 10 e))
    go false e ih = omega (arith, decimal_last n (ltb-false n 10 e), ih (omega arith))

-- a field is one byte longer than its number
pub field_long : (n end : ℕ) → length (field n end) ≡ length (decimal n) + 1
unfolding field
field_long n end = length-append (decimal n) (end ∷ [])

-- the field of a number below 10^(k + 1)
pub field_below : (n end k : ℕ) → n < 10 ^ suc k → length (field n end) ≤ suc (suc k)
field_below n end k h = omega (arith, field_long n end, decimal_below n k h)

pub put_nothing : (l : List ℕ) (i : ℕ) → Put l i [] l i
put_nothing l i = record { holds = refl; next = sym (add-zero i) }

-- a byte string that was copied into its place
pub put_copied : (l : List ℕ) (at : ℕ) (s ys : List ℕ) (k : ℕ) → k ≡ length s → at + length s ≤ length l → ys ≡ s → Put l at s (put_mid at k l ys) (at + length s)
put_copied l at s ys k e h w = record {
  holds = put_mid-paste _ _ _ _ s (length s) w (sym e) refl ∙ ap (λ x. take at l ++ x ++ drop (at + length s) l) (take_all (length s) s (omega arith)) ∙ sym (sets-eq s l at h);
  next = refl;
}

-- a number of one digit
pub put_digit : (l : List ℕ) (at d n : ℕ) (m : List ℕ) (r : ℕ) → n < 10 → d ≡ 48 + n → Put l at (d ∷ []) m r → Put l at (decimal n) m r
put_digit l at d n m r h e p = rw (decimal_one n h, ← e) p

-- a number of several digits: those before the last, and the last
pub put_digits
    : (l : List ℕ) (at n : ℕ) (m : List ℕ) (r d : ℕ) (k : List ℕ) (t : ℕ) → 10 ≤ n → Put l at (decimal (n / 10)) m r → d ≡ 48 + n % 10 → Put m r (d ∷ []) k t
    → Put l at (decimal n) k t
put_digits l at n m r d k t h p e q = rw (decimal_more n h, ← e) (put_append l at (decimal (n / 10)) m r (d ∷ []) k t p q)

-- a number and the byte that ends its field
pub put_ended : (l : List ℕ) (at n end : ℕ) (m : List ℕ) (r : ℕ) (k : List ℕ) (t : ℕ) → Put l at (decimal n) m r → Put m r (end ∷ []) k t → Put l at (field n end) k t
unfolding field
put_ended l at n end m r k t p q = put_append l at (decimal n) m r (end ∷ []) k t p q

-- room for k + 2 bytes is room for the field of a number below 10^(k + 1)
pub field_room : (at n end k long : ℕ) → n < 10 ^ suc k → at + suc (suc k) ≤ long → at + length (field n end) ≤ long
field_room at n end k long h room = omega (arith, field_below n end k h)

-- a number below 10^(k + 1) was written
pub field_put
    : (l : List ℕ) (at n end k : ℕ) (m : List ℕ) (r : ℕ) → n < 10 ^ suc k → Put l at (field n end) m r → PutField (suc (suc k)) l at n end m r
field_put l at n end k m r h p = record {
  put = p;
  small = omega (arith, field_below n end k h, p.next);
  long = put_length l at (field n end) m r p;
}
