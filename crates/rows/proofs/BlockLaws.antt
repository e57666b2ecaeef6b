-- Blocks of numbers: groups of the same length one after the other, and columns filled up with 0.
use Prim.Native.Nat.{ℕ, zero, suc, ◌+◌, ◌-◌, ◌*◌, ◌≤◌, ◌<◌}
use mathlib.Core.Path.{◌≡◌, refl, sym, ap, ap₂, ◌∙◌}
use mathlib.Core.Logic.{⊎_elim}
use mathlib.Core.List.{List, [], ◌∷◌, ◌++◌, append_assoc, append-nil}
use native.Mathlib.Omega.{arith}
use native.Mathlib.Nat.{eq-or-lt_of_le, suc-add, add-suc, add-zero, suc-mul, add-mul}
use native.Mathlib.Numerals.{add-one}
use lib.ListN.{length, get_or, take, drop, set, replicate, length-append, length-replicate, replicate-append-replicate, get_or-append, get_or-eq_default}
use lib.Seq.{sets, length-sets, sets-eq, take-suc, take_all, get_or-append-add}
use Rattle.rows.specs.Rows.{padded}

-- the numbers of group 0, .., group n - 1
unfoldable pub joined : (ℕ → List ℕ) → ℕ → List ℕ
joined g zero = []
joined g (suc n) = joined g n ++ g n

pub joined_next : (g : ℕ → List ℕ) (n : ℕ) → joined g (suc n) ≡ joined g n ++ g n
unfolding joined
joined_next g n = refl

pub length_joined : (g : ℕ → List ℕ) (w : ℕ) → ((i : ℕ) → length (g i) ≡ w) → (n : ℕ) → length (joined g n) ≡ n * w
unfolding joined
length_joined g w h zero = omega arith
length_joined g w h (suc n) =
    length-append (joined g n) (g n) ∙ ap₂ (λ (a b : ℕ). a + b) (length_joined g w h n) (h n) ∙ sym (suc-mul n w)

-- groups that agree
pub joined_agree : (g h : ℕ → List ℕ) (n : ℕ) → ((i : ℕ) → i < n → g i ≡ h i) → joined g n ≡ joined h n
unfolding joined
joined_agree g h zero same = refl
joined_agree g h (suc n) same = ap₂ ◌++◌ (joined_agree g h n (λ i l. same i (omega arith))) (same n (omega arith))

-- number j of group i
pub get_or_joined
    : (g : ℕ → List ℕ) (w : ℕ) → ((i : ℕ) → length (g i) ≡ w) → (n : ℕ) (rest : List ℕ) (i j : ℕ) → i < n → j < w
    → get_or (joined g n ++ rest) (i * w + j) 0 ≡ get_or (g i) j 0
unfolding joined
get_or_joined g w long zero rest i j h l = absurd (omega arith)
get_or_joined g w long (suc n) rest i j h l =
    ap (λ (x : List ℕ). get_or x (i * w + j) 0) (append_assoc (joined g n) (g n) rest)
    ∙ ⊎_elim last (λ b. get_or_joined g w long n (g n ++ rest) i j b l) (eq-or-lt_of_le {n = i} {m = n} (omega arith))
  where
    last : i ≡ n → get_or (joined g n ++ (g n ++ rest)) (i * w + j) 0 ≡ get_or (g i) j 0
    last e =
        let k : i * w ≡ length (joined g n) = ap (λ (m : ℕ). m * w) e ∙ sym (length_joined g w long n) in
        ap (λ (m : ℕ). get_or (joined g n ++ (g n ++ rest)) (m + j) 0) k
        ∙ get_or-append-add (joined g n) (g n ++ rest) j 0
        ∙ get_or-append (g n) rest 0 j (omega (arith, long n))
        ∙ ap (λ (m : ℕ). get_or (g m) j 0) (sym e)

-- groups of 0 after some
pub joined_zeros
    : (g : ℕ → List ℕ) (w n k : ℕ) → ((i : ℕ) → n ≤ i → g i ≡ replicate w 0) → joined g (n + k) ≡ joined g n ++ replicate (k * w) 0
unfolding joined
joined_zeros g w n zero z =
    let e : 0 * w ≡ 0 = omega arith in
    ap (joined g) (add-zero n) ∙ sym (append-nil (joined g n)) ∙ ap (λ (m : ℕ). joined g n ++ replicate m 0) (sym e)
joined_zeros g w n (suc k) z =
    ap (joined g) (add-suc n k)
    ∙ ap₂ ◌++◌ (joined_zeros g w n k z) (z (n + k) (omega arith))
    ∙ append_assoc (joined g n) (replicate (k * w) 0) (replicate w 0)
    ∙ ap (λ (l : List ℕ). joined g n ++ l) (replicate-append-replicate (k * w) w 0 ∙ ap (λ (m : ℕ). replicate m 0) (sym (suc-mul k w)))

-- groups of 0 after some fill them up
pub joined_padded
    : (g h : ℕ → List ℕ) (w n m : ℕ) → n ≤ m → ((i : ℕ) → length (h i) ≡ w) → ((i : ℕ) → i < n → g i ≡ h i) → ((i : ℕ) → n ≤ i → g i ≡ replicate w 0)
    → joined g m ≡ padded (m * w) (joined h n)
joined_padded g h w n m l long same z =
    let e : m ≡ n + (m - n) = omega arith in
    let a : m * w ≡ n * w + (m - n) * w = ap (λ (k : ℕ). k * w) e ∙ add-mul n (m - n) w in
    let b = length_joined h w long n in
    let r : (m - n) * w ≡ m * w - length (joined h n) = omega (arith, a, b) in
    ap (joined g) e ∙ joined_zeros g w n (m - n) z ∙ ap₂ ◌++◌ (joined_agree g h n same) (ap (λ (k : ℕ). replicate k 0) r)

-- a column in groups of one
abbrev pub ones : (ℕ → ℕ) → ℕ → List ℕ
ones f i = f i ∷ []

pub joined_column : (l : List ℕ) (n : ℕ) → n ≤ length l → joined (ones (λ i. get_or l i 0)) n ≡ take n l
unfolding joined
joined_column l zero h = refl
joined_column l (suc n) h = ap (λ (a : List ℕ). a ++ (get_or l n 0 ∷ [])) (joined_column l n (omega arith)) ∙ sym (take-suc l n 0 h)

pub column_padded : (l : List ℕ) (m : ℕ) → length l ≤ m → joined (ones (λ i. get_or l i 0)) m ≡ padded (m * 1) l
column_padded l m h =
    let f = ones (λ i. get_or l i 0) in
    joined_padded f f 1 (length l) m h (λ i. refl) (λ i b. refl) (λ i b. ap (λ (x : ℕ). x ∷ []) (get_or-eq_default l 0 b))
    ∙ ap (padded (m * 1)) (joined_column l (length l) (omega arith) ∙ take_all (length l) l (omega arith))

-- a column filled up
pub length_padded : (n : ℕ) (l : List ℕ) → length l ≤ n → length (padded n l) ≡ n
length_padded n l h = length-append l (replicate (n - length l) 0) ∙ (let e = length-replicate {A = ℕ} (n - length l) 0 in omega (arith, e))

-- a number past a block
pub get_d_past : (a b : List ℕ) (n i : ℕ) → length a ≡ n → get_or (a ++ b) (n + i) 0 ≡ get_or b i 0
get_d_past a b n i e = ap (λ (k : ℕ). get_or (a ++ b) (k + i) 0) (sym e) ∙ get_or-append-add a b i 0

-- numbers written after others
sets_append : (l : List ℕ) (i : ℕ) (a b : List ℕ) → sets (sets l i a) (i + length a) b ≡ sets l i (a ++ b)
sets_append l i [] b = ap (λ (k : ℕ). sets l k b) (add-zero i)
sets_append l i (x ∷ a) b =
    ap (λ (k : ℕ). sets (sets (set l i x) (suc i) a) k b) (add-suc i (length a) ∙ sym (suc-add i (length a)))
    ∙ sets_append (set l i x) (suc i) a b

-- one block written after another
pub sets_then
    : (held : List ℕ) (at : ℕ) (a row : List ℕ) (n : ℕ) (b row' : List ℕ) → row ≡ sets held at a → at + length a ≡ n → row' ≡ sets row n b
    → row' ≡ sets held at (a ++ b)
sets_then held at a row n b row' e k e' =
    e' ∙ ap (λ (l : List ℕ). sets l n b) e ∙ ap (λ (m : ℕ). sets (sets held at a) m b) (sym k) ∙ sets_append held at a b

-- blocks written in front
pub sets_front : (held a : List ℕ) (n : ℕ) → length a ≡ n → n ≤ length held → sets held 0 a ≡ a ++ drop n held
sets_front held a n e h =
    let z : 0 + length a ≡ n = omega (arith, e) in sets-eq a held 0 (omega (arith, e)) ∙ ap (λ (k : ℕ). a ++ drop k held) z

-- the groups below i are written, w numbers each
pub record Written (held : List ℕ) (at : ℕ) (g : ℕ → List ℕ) (w m : ℕ) (now : List ℕ) (i : ℕ) : Type 0 where
  pub within : i ≤ m
  pub room : at + m * w ≤ length held
  pub long : length now ≡ length held
  pub whole : now ≡ sets held at (joined g i)

pub written_none : (held : List ℕ) (at : ℕ) (g : ℕ → List ℕ) (w m : ℕ) → at + m * w ≤ length held → Written held at g w m held 0
unfolding joined
written_none held at g w m h = record { within = omega arith; room = h; long = refl; whole = refl }

pub written_next
    : (held : List ℕ) (at : ℕ) (g : ℕ → List ℕ) (w m : ℕ) (now now' : List ℕ) (i : ℕ)
    → ((k : ℕ) → length (g k) ≡ w)
    → Written held at g w m now i
    → i < m
    → now' ≡ sets now (at + i * w) (g i)
    → Written held at g w m now' (i + 1)
written_next held at g w m now now' i long f h e =
    record {
      within = omega arith;
      room = f.room;
      long = ap length e ∙ length-sets now (at + i * w) (g i) ∙ f.long;
      whole =
          sets_then held at (joined g i) now (at + i * w) (g i) now' f.whole (ap (λ (k : ℕ). at + k) (length_joined g w long i)) e
          ∙ ap (sets held at) (sym (joined_next g i) ∙ ap (joined g) (sym (add-one i)));
    }

pub written_All
    : (held : List ℕ) (at : ℕ) (g : ℕ → List ℕ) (w m : ℕ) (now : List ℕ) (i : ℕ) → Written held at g w m now i → m ≤ i → now ≡ sets held at (joined g m)
written_All held at g w m now i f h = let e : i ≡ m = omega (arith, f.within) in f.whole ∙ ap (λ (k : ℕ). sets held at (joined g k)) e
