-- How many small traces there are at most: proves FewTraces of specs/EveryTrace.antt.
use Prim.Native.Nat.{ℕ, zero, suc, ◌+◌, ◌-◌, ◌*◌, ◌≤◌}
use mathlib.Core.Path.{◌≡◌, refl, sym, ap, ◌∙◌}
use mathlib.Core.Bool.{Bool, true, false}
use mathlib.Core.List.{List, [], ◌∷◌, ◌++◌}
use native.Mathlib.Omega.{arith}
use native.Mathlib.Nat.{add-zero, add-suc, sub-zero, mul-le-mul}
use lib.ListN.{length, get_or, length-append}
use Rattle.model.specs.Tasks.{Tasks, Release}
use Rattle.enumeration.specs.SmallTraces.{pair_release, may_follow, joined, extended, traces_of, small_traces}
use Rattle.enumeration.specs.SmallCalls.{max_small_tasks, max_small_releases, max_small_ticks}
use Rattle.enumeration.specs.EveryTrace.{max_small_traces, FewTraces}

-- f 0 + .. + f n
unfoldable sums : (ℕ → ℕ) → ℕ → ℕ
sums f zero = f zero + 0
sums f (suc n) = f (suc n) + sums f n

-- how many lists of n pairs out of m there are, in which no pair comes before the one that precedes it
unfoldable ways : ℕ → ℕ → ℕ
ways zero zero = 1
ways zero (suc n) = 0
ways (suc m) n = sums (ways m) n

-- the empty list
ways_none : (m : ℕ) → ways m 0 ≡ 1
unfolding ways sums
ways_none zero = refl
ways_none (suc m) = omega (arith, ways_none m)

-- the lists without the first pair, and those that start with it
ways_suc : (m n : ℕ) → ways (suc m) (suc n) ≡ ways m (suc n) + ways (suc m) n
unfolding ways sums
ways_suc m n = refl

-- with more pairs there are no fewer lists
ways_up : (m n : ℕ) → ways m n ≤ ways (suc m) n
unfolding ways sums
ways_up m zero = omega arith
ways_up m (suc n) = omega arith

ways_more : (k m n : ℕ) → ways m n ≤ ways (m + k) n
ways_more zero m n = rw add-zero (omega arith)
ways_more (suc k) m n = rw add-suc (omega (arith, ways_more k m n, ways_up (m + k) n))

-- nor with longer ones, where there is a pair
ways_longer : (k m n : ℕ) → ways (suc m) n ≤ ways (suc m) (n + k)
ways_longer zero m n = rw add-zero (omega arith)
ways_longer (suc k) m n = rw add-suc (omega (arith, ways_longer k m n, ways_suc m (n + k)))

ways_le : (m m' n n' : ℕ) → m ≤ m' → n ≤ n' → ways (suc m) n ≤ ways (suc m') n'
ways_le m m' n n' h g =
    let e : suc m + (m' - m) ≡ suc m' = omega arith in
    let f : n + (n' - n) ≡ n' = omega arith in
    let longer : ways (suc m) n ≤ ways (suc m) n' = rw f at (ways_longer (n' - n) m n) in
    let more : ways (suc m) n' ≤ ways (suc m') n' = rw e at (ways_more (m' - m) (suc m) n') in
    omega arith

-- the running sums of a list
unfoldable running : ℕ → List ℕ → List ℕ
running a [] = []
running a (c ∷ l) = (c + a) ∷ running (c + a) l

-- the numbers of lists of 0 to 6 pairs out of m
unfoldable row : ℕ → List ℕ
row zero = 1 ∷ 0 ∷ 0 ∷ 0 ∷ 0 ∷ 0 ∷ 0 ∷ []
row (suc m) = running 0 (row m)

row_is : (m : ℕ) → row m ≡ ways m 0 ∷ ways m 1 ∷ ways m 2 ∷ ways m 3 ∷ ways m 4 ∷ ways m 5 ∷ ways m 6 ∷ []
unfolding row running ways sums
row_is zero = refl
row_is (suc m) = ap (running 0) (row_is m)

row_last : get_or (row 37) 6 0 ≡ max_small_traces
unfolding row running
row_last = refl

-- the lists of up to 6 pairs out of 36 are as many as those of 6 out of 37
most : ways 37 6 ≡ max_small_traces
most = ap (λ l. get_or l 6 0) (sym (row_is 37)) ∙ row_last

-- lists joined from pair x on, each with no more members than there are ways from its pair on
joined_le
    : {A : Type 0} (f : ℕ → List A) (b n : ℕ) → ((y : ℕ) → length (f y) ≤ ways (b - y) n) → (m x : ℕ) → m ≡ b - x → length (joined f x m) ≤ ways m (suc n)
unfolding joined
joined_le f b n h zero x e = omega arith
joined_le f b n h (suc m) x e =
    let here : length (f x) ≤ ways (suc m) n = rw (← e) at (h x) in
    let later : length (joined f (suc x) m) ≤ ways m (suc n) = joined_le f b n h m (suc x) (omega arith) in
    rw length-append (omega (arith, ways_suc m n))

-- the extensions of a trace by n releases from pair x on
extended_le : (s : Tasks) (b n x : ℕ) (l : List Release) → length (extended s b n x l) ≤ ways (b - x) n
unfolding extended
extended_le s b zero x l = omega (arith, ways_none (b - x))
extended_le s b (suc n) x l =
    joined_le _ b n (λ y. each y (may_follow s l (pair_release s y)) (extended_le s b n y (l ++ (pair_release s y ∷ [])))) (b - x) x refl
  where
    rest : ℕ → List (List Release)
    rest y = extended s b n y (l ++ (pair_release s y ∷ []))

    each : (y : ℕ) (c : Bool) → length (rest y) ≤ ways (b - y) n → length {A = List Release} (elim c [ true ↦ rest y | false ↦ [] ]) ≤ ways (b - y) n
    each y true h = h
    each y false h = omega arith

-- the last of the lists joined
joined_last : {A : Type 0} (f : ℕ → List A) (m x y : ℕ) → x + m ≡ y → length (joined f x (suc m)) ≡ length (joined f x m) + length (f y)
unfolding joined
joined_last f zero x y e = let d : x ≡ y = omega arith in rw d (omega (arith, length-append (f y) []))
joined_last f (suc m) x y e =
    omega (
      arith,
      length-append (f x) (joined f (suc x) (suc m)),
      length-append (f x) (joined f (suc x) m),
      joined_last f m (suc x) y (omega arith),
    )

-- lists joined have no more members than the sum of their bounds
joined_sums : {A : Type 0} (f : ℕ → List A) (g : ℕ → ℕ) → ((k : ℕ) → length (f k) ≤ g k) → (n : ℕ) → length (joined f 0 (suc n)) ≤ sums g n
unfolding joined sums
joined_sums f g h zero = omega (arith, length-append (f 0) [], h 0)
joined_sums f g h (suc n) = omega (arith, joined_last f (suc n) 0 (suc n) (omega arith), joined_sums f g h n, h (suc n))

-- the small traces of up to n releases with ticks below t
small_le : (s : Tasks) (n t : ℕ) → length (small_traces s n t) ≤ ways (suc (t * s.count)) n
unfolding small_traces traces_of ways
small_le s n t = joined_sums _ _ (λ k. rw sub-zero at (extended_le s (t * s.count) k 0 [])) n

-- a sheet of at most 3 tasks has at most 5,245,786 small traces of up to n ≤ 6 releases with ticks below t ≤ 12
pub few_traces : FewTraces
few_traces s n t tasks releases ticks =
    let pairs : t * s.count ≤ 36 = mul-le-mul {n₂ = max_small_ticks} {m₂ = max_small_tasks} ticks tasks in
    omega (arith, small_le s n t, ways_le (t * s.count) 36 n max_small_releases pairs releases, most)
