-- Laws of the windows of a frame: which ticks are in them, and our ticks counted window by window and by whole frames.
use Prim.Native.Nat.{ℕ, zero, suc, ◌+◌, ◌-◌, ◌*◌, ◌%◌, ◌/◌, ◌≤◌, ◌<◌, min}
use mathlib.Core.Path.{◌≡◌, refl, sym, ap, ◌∙◌}
use mathlib.Core.Bool.{Bool, true, false, ◌&&◌, ◌||◌}
use mathlib.Core.Logic.{◌⊎◌, inl, inr}
use mathlib.Core.Option.{some}
use native.Mathlib.Omega.{arith}
use native.Mathlib.Nat.{mod-lt, mod-eq_of_lt, mod-add-div', suc-mul, zero-mul}
use borrow.Author.Tests.{lt-ltb, le-ltb, le-leb, lt-leb, ltb-true, leb-true}
use lib.Dec.{leb}
use Rattle.model.specs.Series.{on, sum}
use Rattle.model.specs.Frame.{Frame, InRules, in_window, in_some, ours_in, supply}
use Rattle.model.proofs.SeriesLaws.{sum_eq, sum_add, sum_nil, sum_ge, on_true, on_false, and_left, and_right, and_both, clash, below_suc, le_or_lt}
use Rattle.model.proofs.SupplyLaws.{supply_append, supply_high}
use Rattle.model.proofs.FrameLaws.{supply_turn}
use Rattle.frame.specs.WindowColumns.{per_frame}

-- the ticks of window k among the first x of a frame, and those of all its windows
abbrev pub part : Frame → ℕ → ℕ → ℕ
part f x k = min (x - f.first k) (f.size k)

abbrev pub parts : Frame → ℕ → ℕ
parts f x = sum (part f x) f.count

module _ (f : Frame) where
  -- a tick from the first of a window up to its end
  pub window_in_lem : (k x : ℕ) → f.first k ≤ x → x < f.first k + f.size k → in_window f k x ≡ true
  unfolding in_window
  window_in_lem k x a b = and_both _ _ (le-leb _ _ a) (lt-ltb _ _ b)

  -- a tick before it
  pub window_before : (k x : ℕ) → x < f.first k → in_window f k x ≡ false
  unfolding in_window
  window_before k x a = rw (lt-leb _ _ a)

  and_no : (a : Bool) → (a && false) ≡ false
  and_no true = refl
  and_no false = refl

  -- a tick after it
  pub window_after : (k x : ℕ) → f.first k + f.size k ≤ x → in_window f k x ≡ false
  unfolding in_window
  window_after k x a = rw (le-ltb _ _ a) (and_no (leb (f.first k) x))

  -- what a tick in a window says
  pub window_low : (k x : ℕ) → in_window f k x ≡ true → f.first k ≤ x
  unfolding in_window
  window_low k x h = leb-true _ _ (and_left _ _ h)

  pub window_high : (k x : ℕ) → in_window f k x ≡ true → x < f.first k + f.size k
  unfolding in_window
  window_high k x h = ltb-true _ _ (and_right (leb (f.first k) x) _ h)

  -- a tick in none of the first windows
  pub some_none : (n x : ℕ) → ((k : ℕ) → k < n → in_window f k x ≡ false) → in_some f n x ≡ false
  unfolding in_some
  some_none zero x h = refl
  some_none (suc n) x h = rw (some_none n x (λ k l. h k (omega arith))) (h n (omega arith))

  -- which window a tick is in
  pub some_which : (n x : ℕ) → in_some f n x ≡ true → (k : ℕ) × (k < n) × (in_window f k x ≡ true)
  unfolding in_some
  some_which zero x h = clash false h refl
  some_which (suc n) x h = go (in_some f n x) refl (some_which n x)
    where
      go : (b : Bool) → in_some f n x ≡ b → (in_some f n x ≡ true → (k : ℕ) × (k < n) × (in_window f k x ≡ true))
          → (k : ℕ) × (k < suc n) × (in_window f k x ≡ true)
      go true e i = let r : (k : ℕ) × (k < n) × (in_window f k x ≡ true) = i e in (r.0, omega arith, r.2)
      go false e i = (n, omega arith, rw e at h)

  -- one tick more of a window
  part_next : (k x : ℕ) → part f x k + on (in_window f k x) 1 ≡ part f (suc x) k
  part_next k x = go (le_or_lt (f.first k) x) (le_or_lt (f.first k + f.size k) x)
    where
      go : (f.first k ≤ x) ⊎ (x < f.first k) → (f.first k + f.size k ≤ x) ⊎ (x < f.first k + f.size k)
          → part f x k + on (in_window f k x) 1 ≡ part f (suc x) k
      go (inr l) r = omega (arith, on_false (in_window f k x) 1 (window_before k x l))
      go (inl l) (inl r) = omega (arith, on_false (in_window f k x) 1 (window_after k x r))
      go (inl l) (inr r) = omega (arith, on_true (in_window f k x) 1 (window_in_lem k x l r))

  -- no tick of a window, all of them, and some
  pub part_none : (k x : ℕ) → x ≤ f.first k → part f x k ≡ 0
  part_none k x h = omega arith

  pub part_all : (k x : ℕ) → f.first k + f.size k ≤ x → part f x k ≡ f.size k
  part_all k x h = omega arith

  pub part_some : (k l : ℕ) → l ≤ f.size k → part f (f.first k + l) k ≡ l
  part_some k l h = omega arith

  module _ (v : InRules f) where
    -- a window ends before the later ones begin
    pub ends_before : (k m : ℕ) → k < m → m < f.count → f.first k + f.size k < f.first m
    ends_before k zero l h = absurd (omega arith)
    ends_before k (suc m) l h = go (below_suc k m l) (ends_before k m)
      where
        go : (k < m) ⊎ (k ≡ m) → (k < m → m < f.count → f.first k + f.size k < f.first m) → f.first k + f.size k < f.first (suc m)
        go (inl b) i = omega (arith, i b (omega arith), v.apart m h)
        go (inr e) i = rw e (v.apart m h)

    or_on : (a b : Bool) → (b ≡ true → a ≡ false) → on (a || b) 1 ≡ on a 1 + on b 1
    unfolding on
    or_on false b h = omega arith
    or_on true false h = omega arith
    or_on true true h = clash true refl (h refl)

    -- a tick is in one window at most
    some_sum : (n x : ℕ) → n ≤ f.count → on (in_some f n x) 1 ≡ sum (λ k. on (in_window f k x) 1) n
    unfolding in_some sum on
    some_sum zero x l = refl
    some_sum (suc n) x l =
        or_on (in_some f n x) (in_window f n x)
        (λ e. some_none n x (λ k b. window_after k x (omega (arith, ends_before k n b (omega arith), window_low n x e))))
        ∙ ap (λ (z : ℕ). z + on (in_window f n x) 1) (some_sum n x (omega arith))

    -- the ticks of windows among the first x of a frame, tick by tick and window by window
    frame_parts : (x : ℕ) → sum (λ n. on (in_some f f.count n) 1) x ≡ parts f x
    unfolding sum
    frame_parts zero = sym (sum_nil (part f 0) f.count (λ k l. omega arith))
    frame_parts (suc x) =
        omega (
          arith,
          frame_parts x,
          some_sum f.count x (omega arith),
          sum_add (part f x) (λ k. on (in_window f k x) 1) (part f (suc x)) f.count (λ k l. part_next k x),
        )

    -- our ticks among the first of a frame
    pub supply_parts : (x : ℕ) → x ≤ f.ticks → supply (ours_in (some f)) 0 x ≡ parts f x
    unfolding supply
    supply_parts x h =
        sum_eq (λ n. on (in_some f f.count ((0 + n) % f.ticks)) 1) (λ n. on (in_some f f.count n) 1) x
        (λ n l. let e : 0 + n ≡ n = omega arith in rw (e, mod-eq_of_lt {n = n} {m = f.ticks} (omega arith)))
        ∙ frame_parts x

    -- our ticks of the first frame
    pub supply_whole : supply (ours_in (some f)) 0 f.ticks ≡ per_frame f
    supply_whole =
        supply_parts f.ticks (omega arith) ∙ sum_eq (part f f.ticks) f.size f.count (λ k l. part_all k f.ticks (v.inside k l))

    -- a frame more
    supply_more : (u t : ℕ) → supply (ours_in (some f)) u (t + f.ticks) ≡ supply (ours_in (some f)) u t + per_frame f
    supply_more u t = omega (arith, supply_append (ours_in (some f)) u t f.ticks, supply_turn (some f) (u + t), supply_whole)

    -- whole frames and a rest
    pub supply_frames : (u q r : ℕ) → supply (ours_in (some f)) u (q * f.ticks + r) ≡ q * per_frame f + supply (ours_in (some f)) u r
    supply_frames u zero r = rw (zero-mul f.ticks, zero-mul (per_frame f)) (let e : 0 + r ≡ r = omega arith in rw e (omega arith))
    supply_frames u (suc q) r =
        let e : suc q * f.ticks + r ≡ (q * f.ticks + r) + f.ticks = omega (arith, suc-mul q f.ticks) in
        rw e (omega (arith, supply_more u (q * f.ticks + r), supply_frames u q r, suc-mul q (per_frame f)))

    -- our ticks among the first t, by division
    pub supply_split : (t : ℕ) → supply (ours_in (some f)) 0 t ≡ t / f.ticks * per_frame f + parts f (t % f.ticks)
    supply_split t =
        let e : t ≡ t / f.ticks * f.ticks + t % f.ticks = omega (arith, mod-add-div' t f.ticks) in
        ap (supply (ours_in (some f)) 0) e
        ∙ supply_frames 0 (t / f.ticks) (t % f.ticks)
        ∙ ap (◌+◌ (t / f.ticks * per_frame f)) (supply_parts (t % f.ticks) (omega (arith, mod-lt t {m = f.ticks} v.ticks_low)))

    -- our ticks of a frame are at least 1 and at most its ticks
    pub per_low : 1 ≤ per_frame f
    per_low = omega (arith, sum_ge f.size f.count 0 v.count_low, v.size_low 0 v.count_low)

    pub per_high : per_frame f ≤ f.ticks
    per_high = rw (← supply_whole) (supply_high (ours_in (some f)) 0 f.ticks)
