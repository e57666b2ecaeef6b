-- Laws of numbers as bytes.
use Prim.Native.Nat.{ℕ, zero, suc, ◌+◌, ◌*◌, ◌^◌, ◌/◌, ◌%◌, ◌-◌, ◌≤◌, ◌<◌}
use mathlib.Core.Path.{◌≡◌, refl, sym, ap, ap₂, ◌∙◌}
use mathlib.Core.List.{List, [], ◌∷◌, ◌++◌}
use native.Mathlib.Omega.{arith}
use native.Mathlib.Numerals.{add-one}
use native.Mathlib.Nat.{mul_assoc, mod-lt, mod-add-div, mod-eq_of_lt, div-eq_of_lt, div-lt_iff_lt-mul, add-mul-div_left, add-mul-mod_self_left}
use lib.ListN.{length, get_or, take, drop, length-append, length-drop, get_or-eq_default}
use lib.Seq.{get_or-drop, get_or-take, drop-cons, take_at, drop-append-add, length-take-le, take-add, take-take, drop-drop, take-nil}
use mathlib.Core.Bool.{Bool, true, false}
use lib.Dec.{ltb}
use borrow.Author.Tests.{ltb-true, ltb-false}
use Rattle.fileformat.specs.Numbers.{number, bytes_of, field, Bytes}

pub by_order : (k i : ℕ) {C : Type 0} → (k ≤ i → C) → (i < k → C) → C
by_order k i {C} f g = go (ltb i k) refl
  where
    go : (b : Bool) → ltb i k ≡ b → C
    go true e = g (ltb-true _ _ e)
    go false e = f (ltb-false _ _ e)

-- what is dropped and what is taken do not meet
pub drop_take : {A : Type 0} (a m : ℕ) (l : List A) → a ≤ m → drop a (take m l) ≡ take (m - a) (drop a l)
drop_take zero m l h = let e : m - 0 ≡ m = omega arith in rw e
drop_take (suc a) zero l h = absurd (omega arith)
drop_take (suc a) (suc m) [] h = rw take-nil
drop_take (suc a) (suc m) (x ∷ l) h = let e : suc m - suc a ≡ m - a = omega arith in rw e (drop_take a m l (omega arith))

pub length_bytes : (k n : ℕ) → length (bytes_of k n) ≡ k
unfolding bytes_of
length_bytes zero n = refl
length_bytes (suc k) n = ap suc (length_bytes k (n / 256))

-- the bytes of a number give it back
pub number_bytes_lem : (k n : ℕ) → n < 256 ^ k → number (bytes_of k n) ≡ n
unfolding number bytes_of
number_bytes_lem zero n h = omega arith
number_bytes_lem (suc k) n h =
    let h' : n < 256 ^ k * 256 = omega arith in
    rw (number_bytes_lem k (n / 256) ((div-lt_iff_lt-mul {k = 256} {x = n} {y = 256 ^ k} (omega arith)).1 h')) (mod-add-div n 256)

-- and the number of some bytes gives the bytes back
pub bytes_number : (l : List ℕ) → Bytes l → bytes_of (length l) (number l) ≡ l
unfolding number bytes_of
bytes_number [] h = refl
bytes_number (b ∷ l) h =
    ap₂ ◌∷◌ (add-mul-mod_self_left b 256 (number l) ∙ mod-eq_of_lt (h 0))
    (ap (bytes_of (length l)) (add-mul-div_left b (number l) {y = 256} (omega arith) ∙ ap (λ x. x + number l) (div-eq_of_lt (h 0)) ∙ omega arith)
    ∙ bytes_number l (λ i. h (suc i)))

-- the bytes of a number are bytes
bytes_below : (k n : ℕ) → Bytes (bytes_of k n)
unfolding bytes_of
bytes_below zero n i = omega arith
bytes_below (suc k) n zero = mod-lt n (omega arith)
bytes_below (suc k) n (suc i) = bytes_below k (n / 256) i

-- the number of some bytes and then others
number_append : (a b : List ℕ) → number (a ++ b) ≡ number a + 256 ^ length a * number b
unfolding number
number_append [] b = omega arith
number_append (x ∷ a) b =
    let p : 256 ^ suc (length a) ≡ 256 * 256 ^ length a = omega arith in
    let e : 256 ^ suc (length a) * number b ≡ 256 * (256 ^ length a * number b) = ap (λ y. y * number b) p ∙ mul_assoc 256 (256 ^ length a) (number b) in
    omega (arith, number_append a b, e)

bytes_append : (a b : List ℕ) → Bytes a → Bytes b → Bytes (a ++ b)
bytes_append [] b f g i = g i
bytes_append (x ∷ a) b f g zero = f 0
bytes_append (x ∷ a) b f g (suc i) = bytes_append a b (λ j. f (suc j)) g i

-- the eight bytes of a number are those of two numbers of four
module _ (n : ℕ) where
  abbrev low_bytes : List ℕ
  low_bytes = bytes_of 4 (n % 4294967296)

  abbrev high_bytes : List ℕ
  high_bytes = bytes_of 4 (n / 4294967296)

  long_both : length (low_bytes ++ high_bytes) ≡ 8
  long_both = length-append low_bytes high_bytes ∙ omega (arith, length_bytes 4 (n % 4294967296), length_bytes 4 (n / 4294967296))

  number_low : number low_bytes ≡ n % 4294967296
  number_low = number_bytes_lem 4 (n % 4294967296) (mod-lt n (omega arith))

  number_high : n < 256 ^ 8 → number high_bytes ≡ n / 4294967296
  number_high h = number_bytes_lem 4 (n / 4294967296) ((div-lt_iff_lt-mul {k = 4294967296} {x = n} {y = 4294967296} (omega arith)).1 (omega arith))

  number_both : n < 256 ^ 8 → number (low_bytes ++ high_bytes) ≡ n
  number_both h =
      number_append low_bytes high_bytes
      ∙ ap (λ k. number low_bytes + 256 ^ k * number high_bytes) (length_bytes 4 (n % 4294967296))
      ∙ omega (arith, number_low, number_high h, mod-add-div n 4294967296)

  pub bytes_eight : n < 256 ^ 8 → bytes_of 8 n ≡ low_bytes ++ high_bytes
  bytes_eight h =
      ap₂ bytes_of (sym long_both) (sym (number_both h))
      ∙ bytes_number (low_bytes ++ high_bytes) (bytes_append low_bytes high_bytes (bytes_below 4 (n % 4294967296)) (bytes_below 4 (n / 4294967296)))

-- a field that stands first, and a field after some bytes
pub field_here : (k n : ℕ) (l : List ℕ) → n < 256 ^ k → field 0 k (bytes_of k n ++ l) ≡ n
unfolding field
field_here k n l h = rw (take_at (bytes_of k n) l k (length_bytes k n)) (number_bytes_lem k n h)

pub field_after : (a k j n : ℕ) (l : List ℕ) → field (j + a) k (bytes_of j n ++ l) ≡ field a k l
unfolding field
field_after a k j n l =
    ap (λ i. number (take k (drop (i + a) (bytes_of j n ++ l)))) (sym (length_bytes j n))
    ∙ ap (λ x. number (take k x)) (drop-append-add (bytes_of j n) l a)

-- the bytes of a field
pub bytes_field : (a k : ℕ) (l : List ℕ) → Bytes l → a + k ≤ length l → bytes_of k (field a k l) ≡ take k (drop a l)
unfolding field
bytes_field a k l b h =
    ap (λ i. bytes_of i (number (take k (drop a l)))) (sym long) ∙ bytes_number (take k (drop a l)) bytes
  where
    long : length (take k (drop a l)) ≡ k
    long = length-take-le k (drop a l) (omega (arith, length-drop a l))

    bytes : Bytes (take k (drop a l))
    bytes i =
        by_order k i (λ m. rw (get_or-eq_default (take k (drop a l)) 0 {n = i} (omega (arith, long))) (omega arith))
        (λ m. rw (get_or-take k (drop a l) i 0 m, get_or-drop) (b (a + i)))

-- two neighbouring parts are one
pub take_part : (a k m : ℕ) (l : List ℕ) → take (k + m) (drop a l) ≡ take k (drop a l) ++ take m (drop (a + k) l)
take_part a k m l = take-add k m (drop a l) ∙ ap (λ x. take k (drop a l) ++ take m x) (drop-drop k a l)

-- a field depends on its own bytes only
pub field_take : (a k m : ℕ) (l : List ℕ) → a + k ≤ m → field a k (take m l) ≡ field a k l
unfolding field
field_take a k m l h = ap number (ap (take k) (drop_take a m l (omega arith)) ∙ take-take k (m - a) (drop a l) (omega arith))

-- a field of four bytes
pub field_four : (a : ℕ) (l : List ℕ) → a + 4 ≤ length l → field a 4 l ≡ get_or l a 0 + 256 * (get_or l (a + 1) 0 + 256 * (get_or l (a + 2) 0 + 256 * get_or l (a + 3) 0))
unfolding field number
field_four a l h =
    ap (λ x. number (take 4 x))
    (drop-cons l a 0 (omega arith) ∙ ap (λ x. get_or l a 0 ∷ x)
    (ap (λ i. drop i l) (sym (add-one a)) ∙ drop-cons l (a + 1) 0 (omega arith) ∙ ap (λ x. get_or l (a + 1) 0 ∷ x)
    (ap (λ i. drop i l) (e 1) ∙ drop-cons l (a + 2) 0 (omega arith) ∙ ap (λ x. get_or l (a + 2) 0 ∷ x)
    (ap (λ i. drop i l) (e 2) ∙ drop-cons l (a + 3) 0 (omega arith)))))
    ∙ omega arith
  where
    e : (i : ℕ) → suc (a + i) ≡ a + (i + 1)
    e i = omega arith

-- a field of what follows an offset
pub field_drop : (a b k : ℕ) (l : List ℕ) → field b k (drop a l) ≡ field (a + b) k l
unfolding field
field_drop a b k l = ap (λ x. number (take k x)) (drop-drop b a l)

-- eight bytes are two numbers of four
pub field_eight : (a : ℕ) (l : List ℕ) → a + 8 ≤ length l → field a 8 l ≡ field a 4 l + 4294967296 * field (a + 4) 4 l
unfolding field
field_eight a l h =
    ap number (take_part a 4 4 l) ∙ number_append (take 4 (drop a l)) (take 4 (drop (a + 4) l))
    ∙ ap (λ n. number (take 4 (drop a l)) + 256 ^ n * number (take 4 (drop (a + 4) l))) (length-take-le 4 (drop a l) (omega (arith, length-drop a l)))

pub field_one : (a : ℕ) (l : List ℕ) → a + 1 ≤ length l → field a 1 l ≡ get_or l a 0
unfolding field number
field_one a l h = ap (λ x. number (take 1 x)) (drop-cons l a 0 (omega arith)) ∙ omega arith
