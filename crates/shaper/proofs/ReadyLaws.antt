-- Laws of ready ticks: the least ticks that keep every gap, their closed form, and what a longer list adds.
use Prim.Native.Nat.{ℕ, zero, suc, ◌+◌, ◌-◌, ◌*◌, ◌≤◌, ◌<◌}
use mathlib.Core.Path.{◌≡◌, refl, sym, ap, ◌∙◌}
use mathlib.Core.List.{List, [], ◌∷◌}
use native.Mathlib.Omega.{arith}
use lib.ListN.{length, get_or}
use lib.Seq.{ext_get_or}
use Rattle.model.specs.Series.{most}
use Rattle.model.proofs.SeriesLaws.{most_ge, most_is}
use Rattle.model.specs.Gap.{gap}
use Rattle.model.specs.Ready.{after, ready_next, ready_from, ready_ticks}
use Rattle.shaper.proofs.GapLaws.{gap_zero, gap_mono, gap_super, gap_le}
use Rattle.shaper.specs.ReadyTicks.{Ready}

one_more : (j : ℕ) → 1 + j - 1 ≡ j
one_more j = omega arith

module _ (P K : ℕ) where
  -- one step: a tick of `after` lies at least d_K(k + j) after each member of the history ..
  pub after_ge : (h : List ℕ) (k j : ℕ) → j < length h → get_or h j 0 + gap P K (k + j) ≤ after P K h k
  unfolding after
  after_ge [] k j l = absurd (omega arith)
  after_ge (r ∷ h) k zero l = omega (arith, gap_mono P K (k + 0) k (omega arith))
  after_ge (r ∷ h) k (suc j) l = omega (arith, after_ge h (suc k) j (omega arith), gap_mono P K (k + suc j) (suc k + j) (omega arith))

  -- .. and is the least that does
  pub after_le : (h : List ℕ) (k t : ℕ) → ((j : ℕ) → j < length h → get_or h j 0 + gap P K (k + j) ≤ t) → after P K h k ≤ t
  unfolding after
  after_le [] k t b = omega arith
  after_le (r ∷ h) k t b =
      omega (
        arith,
        b 0 (omega arith),
        gap_mono P K k (k + 0) (omega arith),
        after_le h (suc k) t (λ j l. omega (arith, b (suc j) (omega arith), gap_mono P K (suc k + j) (k + suc j) (omega arith))),
      )

  -- the next ready tick is not before the release
  pub next_not_before : (h : List ℕ) (a : ℕ) → a ≤ ready_next P K h a
  unfolding ready_next
  next_not_before h a = omega arith

  -- it lies at least d_K(k) after the ready tick of the job k places before, for every k
  pub next_apart : (h : List ℕ) (a k : ℕ) → 1 ≤ k → k ≤ length h → get_or h (k - 1) 0 + gap P K k ≤ ready_next P K h a
  unfolding ready_next
  next_apart h a k l g = omega (arith, after_ge h 1 (k - 1) (omega arith), gap_mono P K k (1 + (k - 1)) (omega arith))

  -- after earlier jobs h: as many ready ticks as releases
  pub from_length : (h a : List ℕ) → length (ready_from P K h a) ≡ length a
  unfolding ready_from
  from_length h [] = refl
  from_length h (x ∷ a) = ap suc (from_length (ready_next P K h x ∷ h) a)

  from_not_before : (h a : List ℕ) (n : ℕ) → n < length a → get_or a n 0 ≤ get_or (ready_from P K h a) n 0
  unfolding ready_from
  from_not_before h [] n l = absurd (omega arith)
  from_not_before h (x ∷ a) zero l = next_not_before h x
  from_not_before h (x ∷ a) (suc n) l = from_not_before (ready_next P K h x ∷ h) a n (omega arith)

  from_history : (h a : List ℕ) (n j : ℕ) → n < length a → j < length h → get_or h j 0 + gap P K (suc n + j) ≤ get_or (ready_from P K h a) n 0
  unfolding ready_from
  from_history h [] n j l g = absurd (omega arith)
  from_history h (x ∷ a) zero j l g = omega (arith, next_apart h x (1 + j) (omega arith) (omega arith), ap (λ (i : ℕ). get_or h i 0) (one_more j))
  from_history h (x ∷ a) (suc n) j l g =
      omega (
        arith,
        from_history (ready_next P K h x ∷ h) a n (suc j) (omega arith) (omega arith),
        gap_mono P K (suc (suc n) + j) (suc n + suc j) (omega arith),
      )

  from_apart : (h a : List ℕ) (m n : ℕ) → m ≤ n → n < length a → get_or (ready_from P K h a) m 0 + gap P K (n - m) ≤ get_or (ready_from P K h a) n 0
  unfolding ready_from
  from_apart h [] m n g l = absurd (omega arith)
  from_apart h (x ∷ a) zero zero g l = omega (arith, gap_zero P K)
  from_apart h (x ∷ a) zero (suc n) g l =
      omega
      (arith, from_history (ready_next P K h x ∷ h) a n 0 (omega arith) (omega arith), gap_mono P K (suc n - 0) (suc n + 0) (omega arith))
  from_apart h (x ∷ a) (suc m) zero g l = absurd (omega arith)
  from_apart h (x ∷ a) (suc m) (suc n) g l =
      omega
      (arith, from_apart (ready_next P K h x ∷ h) a m n (omega arith) (omega arith), gap_mono P K (suc n - suc m) (n - m) (omega arith))

  from_least
      : (h a : List ℕ) (n t : ℕ)
      → n < length a
      → get_or a n 0 ≤ t
      → ((j : ℕ) → j < length h → get_or h j 0 + gap P K (suc n + j) ≤ t)
      → ((m : ℕ) → m < n → get_or (ready_from P K h a) m 0 + gap P K (n - m) ≤ t)
      → get_or (ready_from P K h a) n 0 ≤ t
  unfolding ready_from ready_next
  from_least h [] n t l g b c = absurd (omega arith)
  from_least h (x ∷ a) zero t l g b c = omega (arith, after_le h 1 t b)
  from_least h (x ∷ a) (suc n) t l g b c = from_least (ready_next P K h x ∷ h) a n t (omega arith) g older newer
    where
      older : (j : ℕ) → j < suc (length h) → get_or (ready_next P K h x ∷ h) j 0 + gap P K (suc n + j) ≤ t
      older zero i = omega (arith, c 0 (omega arith), gap_mono P K (suc n + 0) (suc n - 0) (omega arith))
      older (suc j) i = omega (arith, b j (omega arith), gap_mono P K (suc n + suc j) (suc (suc n) + j) (omega arith))

      newer : (m : ℕ) → m < n → get_or (ready_from P K (ready_next P K h x ∷ h) a) m 0 + gap P K (n - m) ≤ t
      newer m i = omega (arith, c (suc m) (omega arith), gap_mono P K (n - m) (suc n - suc m) (omega arith))

  module _ (a : List ℕ) where
    -- one ready tick for each release
    pub ready_length : length (ready_ticks P K a) ≡ length a
    ready_length = from_length [] a

    -- no ready tick is before its release
    pub ready_not_before : (n : ℕ) → n < length a → get_or a n 0 ≤ get_or (ready_ticks P K a) n 0
    ready_not_before = from_not_before [] a

    -- every two ready ticks are apart by the gap
    pub ready_apart_to : (m n : ℕ) → m ≤ n → n < length a → get_or (ready_ticks P K a) m 0 + gap P K (n - m) ≤ get_or (ready_ticks P K a) n 0
    ready_apart_to = from_apart [] a

    pub ready_apart : (m k : ℕ) → m + k < length a → get_or (ready_ticks P K a) m 0 + gap P K k ≤ get_or (ready_ticks P K a) (m + k) 0
    ready_apart m k l = omega (arith, ready_apart_to m (m + k) (omega arith) l, gap_mono P K k (m + k - m) (omega arith))

    -- a ready tick is the least that keeps the release and the gaps
    pub ready_least
        : (n t : ℕ)
        → n < length a
        → get_or a n 0 ≤ t
        → ((m : ℕ) → m < n → get_or (ready_ticks P K a) m 0 + gap P K (n - m) ≤ t)
        → get_or (ready_ticks P K a) n 0 ≤ t
    ready_least n t l g c = from_least [] a n t l g (λ j i. absurd (omega arith)) c

    -- a ready tick lies at least the gap after each earlier release
    pub ready_since : (m n : ℕ) → m ≤ n → n < length a → get_or a m 0 + gap P K (n - m) ≤ get_or (ready_ticks P K a) n 0
    ready_since m n g l = omega (arith, ready_not_before m (omega arith), ready_apart_to m n g l)

    -- the tick at n lies exactly the gap after some release not later than its own
    abbrev pub Attained : ℕ → Type 0
    Attained n = (m : ℕ) × (m ≤ n) × (get_or (ready_ticks P K a) n 0 ≡ get_or a m 0 + gap P K (n - m))

    closed_step : (n : ℕ) → n < length a → ((m : ℕ) → m < n → Attained m) → Attained n
    closed_step n l e = go (most_is since (suc n) (omega arith))
      where
        since : ℕ → ℕ
        since m = get_or a m 0 + gap P K (n - m)

        earlier : (m : ℕ) → m < n → Attained m → get_or (ready_ticks P K a) m 0 + gap P K (n - m) ≤ most since (suc n)
        earlier m i (j, g, e) =
            omega (
              arith,
              gap_super P K (m - j) (n - m),
              gap_mono P K (m - j + (n - m)) (n - j) (omega arith),
              most_ge since (suc n) j (omega arith),
            )

        under : get_or (ready_ticks P K a) n 0 ≤ most since (suc n)
        under = ready_least n (most since (suc n)) l (omega (arith, most_ge since (suc n) n (omega arith))) (λ m i. earlier m i (e m i))

        go : (m : ℕ) × (m < suc n) × (most since (suc n) ≡ since m) → Attained n
        go (m, g, e) = (m, omega arith, omega (arith, under, ready_since m n (omega arith) l))

    closed_below : (b n : ℕ) → n < b → n < length a → Attained n
    closed_below zero n i l = absurd (omega arith)
    closed_below (suc b) n i l = closed_step n l (λ m g. closed_below b m (omega arith) (omega arith))

    -- the closed form: every ready tick is attained so
    pub ready_closed : (n : ℕ) → n < length a → Attained n
    ready_closed n l = closed_below (suc n) n (omega arith) l

    -- a ready tick passes the largest release so far by at most n periods
    pub ready_most : (n top : ℕ) → n < length a → ((m : ℕ) → m ≤ n → get_or a m 0 ≤ top) → get_or (ready_ticks P K a) n 0 ≤ top + n * P
    ready_most n top l b = go (ready_closed n l)
      where
        go : Attained n → get_or (ready_ticks P K a) n 0 ≤ top + n * P
        go (m, g, e) = omega (arith, b m g, gap_mono P K (n - m) n (omega arith), gap_le P K n)

    -- the definition and the computed list agree ..
    pub ready_is : Ready P K a (ready_ticks P K a)
    ready_is = record { long = ready_length; not_before = ready_not_before; apart = ready_apart; least = ready_least }

  -- a list that meets the definition is not over another one at n, where they agree before n
  not_over
      : (a r s : List ℕ)
      → Ready P K a r
      → Ready P K a s
      → (n : ℕ)
      → n < length a
      → ((m : ℕ) → m < n → get_or r m 0 ≡ get_or s m 0)
      → get_or r n 0 ≤ get_or s n 0
  not_over a r s x y n l e = x.least n (get_or s n 0) l (y.not_before n l) after_each
    where
      after_each : (m : ℕ) → m < n → get_or r m 0 + gap P K (n - m) ≤ get_or s n 0
      after_each m i =
          let back : m + (n - m) ≡ n = omega arith in
          omega (arith, e m i, y.apart m (n - m) (omega arith), ap (λ (k : ℕ). get_or s k 0) back)

  alike : (a r s : List ℕ) → Ready P K a r → Ready P K a s → (b n : ℕ) → n < b → n < length a → get_or r n 0 ≡ get_or s n 0
  alike a r s x y zero n i l = absurd (omega arith)
  alike a r s x y (suc b) n i l =
      omega (
        arith,
        not_over a r s x y n l (λ m j. alike a r s x y b m (omega arith) (omega arith)),
        not_over a s r y x n l (λ m j. sym (alike a r s x y b m (omega arith) (omega arith))),
      )

  -- .. and no other list meets the definition
  pub ready_same : (a r s : List ℕ) → Ready P K a r → Ready P K a s → r ≡ s
  ready_same a r s x y =
      ext_get_or 0 r s (x.long ∙ sym y.long) (λ n l. alike a r s x y (suc n) n (omega arith) (omega (arith, x.long)))

  pub ready_only : (a r : List ℕ) → Ready P K a r → r ≡ ready_ticks P K a
  ready_only a r x = ready_same a r (ready_ticks P K a) x (ready_is a)
