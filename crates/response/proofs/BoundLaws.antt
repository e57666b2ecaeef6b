-- The response bound by natural numbers.
use Prim.Native.Nat.{ℕ, zero, suc, ◌+◌, ◌-◌, ◌*◌, ◌≤◌, ◌<◌}
use mathlib.Core.Path.{◌≡◌, refl, sym, ap, ◌∙◌}
use mathlib.Core.Bool.{true, false}
use mathlib.Core.Logic.{dite}
use native.Mathlib.Omega.{arith}
use native.Mathlib.Decide.{dec_le, dec_lt}
use lib.IntN.{pos, negsuc, sub_ℕ, ◌+ℤ◌, ◌-ℤ◌}
use lib.Signed.{lt_z, ◌≤ℤ◌}
use lib.Dec.{ltb, le→leb}
use borrow.Author.Tests.{lt-ltb, le-ltb, ltb-true, ltb-false}
use Rattle.model.specs.Processor.{pickup}
use Rattle.model.specs.Bound.{max_z, min_z, offset, bound}
use Rattle.model.specs.Tasks.{Tasks}
use Rattle.model.specs.Verdict.{bound_of, is_late}

-- a difference of natural numbers, by its sign
pub sub_ge : (a b : ℕ) → b ≤ a → sub_ℕ a b ≡ pos (a - b)
sub_ge a b h = rw (le-ltb a b h)

pub sub_lt : (a b : ℕ) → a < b → sub_ℕ a b ≡ negsuc (b - suc a)
sub_lt a b h = rw (lt-ltb a b h)

-- a difference of two natural numbers
pub minus : (a b : ℕ) → pos a -ℤ pos b ≡ sub_ℕ a b
minus a zero = ap pos (omega arith) ∙ sym (sub_ge a 0 (omega arith))
minus a (suc b) = refl

-- x is not below 0: the bound adds what x has over K
module _ (y K w : ℕ) where
  least_up : min_z (pos 0) (pos y) ≡ pos 0
  unfolding min_z
  least_up = dite (dec_lt 0 y) (λ h. rw (lt-ltb 0 y h)) (λ h. let e : y ≡ 0 = omega arith in rw e)

  most_up : max_z (pos y -ℤ pos K) (pos 0) ≡ pos (y - K)
  unfolding max_z
  most_up =
      dite (dec_le K y)
      (λ h. rw (minus y K, sub_ge y K h, le-ltb (y - K) 0 (omega arith)))
      (λ h. let e : y - K ≡ 0 = omega arith in rw (minus y K, sub_lt y K (omega arith), e))

  up : pos w +ℤ max_z (pos y -ℤ pos K) (min_z (pos 0) (pos y)) ≡ pos (w + (y - K))
  up = rw (least_up, most_up)

-- x is below 0: the bound adds x
module _ (n K w : ℕ) where
  less : (b : ℕ) → negsuc n -ℤ pos b ≡ negsuc (n + b)
  less zero = sub_lt 0 (suc n) (omega arith) ∙ ap negsuc (omega arith)
  less (suc b) = ap negsuc (omega arith)

  down : pos w +ℤ max_z (negsuc n -ℤ pos K) (min_z (pos 0) (negsuc n)) ≡ sub_ℕ w (suc n)
  unfolding max_z min_z
  down =
      dite (dec_lt n (n + K))
      (λ h. rw (less K, lt-ltb n (n + K) h))
      (λ h. let e : n + K ≡ n = omega arith in rw (less K, e, le-ltb n n (omega arith)))

module _ (P J K q w : ℕ) where
  -- R(q) where x = J − qP is not below 0
  pub bound_up : q * P ≤ J → bound P J K q w ≡ pos (w + pickup + (J - (q * P + K)))
  unfolding bound offset
  bound_up h = let e : J - q * P - K ≡ J - (q * P + K) = omega arith in rw (minus J (q * P), sub_ge J (q * P) h, up (J - q * P) K (w + pickup), e)

  -- and where it is
  pub bound_down : J < q * P → bound P J K q w ≡ sub_ℕ (w + pickup) (q * P - J)
  unfolding bound offset
  bound_down h = let e : suc (q * P - suc J) ≡ q * P - J = omega arith in rw (minus J (q * P), sub_lt J (q * P) h, down (q * P - suc J) K (w + pickup), e)

-- R(q) as one difference
pub bound_is : (P J K q w : ℕ) → bound P J K q w ≡ sub_ℕ (w + pickup + (J - (q * P + K))) (q * P - J)
bound_is P J K q w =
    dite (dec_le (q * P) J)
    (λ h. bound_up P J K q w h ∙ sym (sub_ge (w + pickup + (J - (q * P + K))) (q * P - J) (omega arith) ∙ ap pos (omega arith)))
    (λ h. let e : w + pickup ≡ w + pickup + (J - (q * P + K)) = omega arith in bound_down P J K q w (omega arith) ∙ ap (λ (x : ℕ). sub_ℕ x (q * P - J)) e)

-- differences in their order
pub sub_order : (a b c d : ℕ) → a + d ≤ c + b → sub_ℕ a b ≤ℤ sub_ℕ c d
sub_order a b c d h = dite (dec_le d c) above below
  where
    above : d ≤ c → sub_ℕ a b ≤ℤ sub_ℕ c d
    above l =
        dite (dec_le b a)
        (λ g. rw (sub_ge c d l, sub_ge a b g) (record { le = le→leb (a - b) (c - d) (omega arith) }))
        (λ g. rw (sub_ge c d l, sub_lt a b (omega arith)) (record { le = tt }))

    below : (d ≤ c → ⊥) → sub_ℕ a b ≤ℤ sub_ℕ c d
    below l = rw (sub_lt c d (omega arith), sub_lt a b (omega arith)) (record { le = le→leb (d - suc c) (b - suc a) (omega arith) })

-- R(q) rises with W(q), and does not rise with K
pub bound_order : (P J K K' q v w : ℕ) → v + (J - (q * P + K)) ≤ w + (J - (q * P + K')) → bound P J K q v ≤ℤ bound P J K' q w
bound_order P J K K' q v w h =
    rw (bound_is P J K' q w, bound_is P J K q v)
    (sub_order (v + pickup + (J - (q * P + K))) (q * P - J) (w + pickup + (J - (q * P + K'))) (q * P - J) (omega arith))

-- the test of a bound
same_test : (a b c d : ℕ) → (a < b → c < d) → (c < d → a < b) → ltb a b ≡ ltb c d
same_test a b c d f g =
    dite (dec_lt a b)
    (λ h. lt-ltb a b h ∙ sym (lt-ltb c d (f h)))
    (λ h. le-ltb a b (omega arith) ∙ sym (dite (dec_lt c d) (λ k. absurd (h (g k))) (λ k. le-ltb c d (omega arith))))

under : (D a b : ℕ) → lt_z (pos D) (sub_ℕ a b) ≡ ltb (D + b) a
under D a b =
    dite (dec_le b a)
    (λ h. rw (sub_ge a b h) (same_test D (a - b) (D + b) a (λ k. omega arith) (λ k. omega arith)))
    (λ h. rw (sub_lt a b (omega arith), le-ltb (D + b) a (omega arith)))

-- R(q) > D without integers, x being J − qP: D + max(0, −x) < W(q) + pickup + max(0, x − K)
module _ (s : Tasks) (k : ℕ → ℕ) (i q w : ℕ) where
  pub late_test
      : is_late s k i q w ≡ ltb (s.deadline i + (q * s.period i - s.jitter i)) (w + pickup + (s.jitter i - (q * s.period i + k i)))
  unfolding is_late bound_of
  late_test =
      dite (dec_le (q * s.period i) (s.jitter i))
      (λ h. ap (lt_z (pos (s.deadline i))) (bound_up (s.period i) (s.jitter i) (k i) q w h)
      ∙ same_test (s.deadline i) (w + pickup + (s.jitter i - (q * s.period i + k i))) (s.deadline i + (q * s.period i - s.jitter i))
      (w + pickup + (s.jitter i - (q * s.period i + k i))) (λ g. omega arith) (λ g. omega arith))
      (λ h. ap (lt_z (pos (s.deadline i))) (bound_down (s.period i) (s.jitter i) (k i) q w (omega arith))
      ∙ under (s.deadline i) (w + pickup) (q * s.period i - s.jitter i)
      ∙ same_test (s.deadline i + (q * s.period i - s.jitter i)) (w + pickup) (s.deadline i + (q * s.period i - s.jitter i))
      (w + pickup + (s.jitter i - (q * s.period i + k i))) (λ g. omega arith) (λ g. omega arith))

  -- a q that is late
  pub is_late_lem
      : is_late s k i q w ≡ true → s.deadline i + (q * s.period i - s.jitter i) < w + pickup + (s.jitter i - (q * s.period i + k i))
  is_late_lem h = ltb-true _ _ (sym late_test ∙ h)

  -- a q that is not
  pub not_late
      : is_late s k i q w ≡ false → w + pickup + (s.jitter i - (q * s.period i + k i)) ≤ s.deadline i + (q * s.period i - s.jitter i)
  not_late h = ltb-false _ _ (sym late_test ∙ h)

  -- and back
  pub late_by
      : s.deadline i + (q * s.period i - s.jitter i) < w + pickup + (s.jitter i - (q * s.period i + k i)) → is_late s k i q w ≡ true
  late_by h = late_test ∙ lt-ltb _ _ h

  pub in_time_by
      : w + pickup + (s.jitter i - (q * s.period i + k i)) ≤ s.deadline i + (q * s.period i - s.jitter i) → is_late s k i q w ≡ false
  in_time_by h = late_test ∙ le-ltb _ _ h
