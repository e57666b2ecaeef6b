-- Laws of the two kinds of a release record: which ticks each may have, and which kind a release is written as.
use Prim.Native.Nat.{ℕ, ◌+◌, ◌*◌, ◌≤◌, ◌<◌}
use mathlib.Core.Path.{◌≡◌, refl, sym, ap, ◌∙◌}
use mathlib.Core.Bool.{Bool, true, false}
use mathlib.Core.Option.{none}
use mathlib.Core.List.{List, [], ◌∷◌, ◌++◌}
use native.Mathlib.Omega.{arith}
use borrow.Author.Tests.{le-leb, lt-leb, leb-true, leb-false, le-ltb, lt-ltb}
use lib.Dec.{leb, ltb}
use lib.ListN.{length}
use Rattle.model.specs.Limits.{max_tick, max_short_tick}
use Rattle.model.specs.Tasks.{Tasks, Release}
use Rattle.model.specs.Checks.{release_fault}
use Rattle.model.proofs.TraceLaws.{Passed, passed_of, fault_none}
use Rattle.fileformat.specs.Records.{Width, short, long, width_in, release_size, width_for}
use Rattle.fileformat.specs.File.{low_tick, high_tick}
use Rattle.fileformat.specs.FileCalls.{list_bytes}

pub width_short : (t : ℕ) → t ≤ max_short_tick → width_for t ≡ short
unfolding width_for
width_short t h = rw (width_for, le-leb t max_short_tick h)

pub width_long : (t : ℕ) → max_short_tick < t → width_for t ≡ long
unfolding width_for
width_long t h = rw (width_for, lt-leb t max_short_tick h)

-- the kind that a tick is written in, by the test that decides it
pub by_width : (t : ℕ) {C : Type 0} → (t ≤ max_short_tick → C) → (max_short_tick < t → C) → C
by_width t {C} f g = go (leb t max_short_tick) refl
  where
    go : (b : Bool) → leb t max_short_tick ≡ b → C
    go true e = f (leb-true _ _ e)
    go false e = g (leb-false _ _ e)

pub width_test : (t : ℕ) → width_for t ≡ width_in (ltb max_short_tick t)
width_test t = by_width t (λ h. width_short t h ∙ ap width_in (sym (le-ltb max_short_tick t h))) (λ h. width_long t h ∙ ap width_in (sym (lt-ltb max_short_tick t h)))

-- a tick that is written in four bytes is up to the short limit
pub short_tick : (t : ℕ) → width_for t ≡ short → t ≤ max_short_tick
short_tick t e = by_width t (λ h. h) (λ h. let w : long ≡ short = sym (width_long t h) ∙ e in let z : ◌≡◌ {A = ℕ} 0 1 = cc in absurd (omega arith))

module _ (s : Tasks) (before : ℕ) (r : Release) where
  -- a release that a record of some kind may hold is one that a list may hold, and the kind is the one that it is written in
  passed_any : (w : Width) → Passed s (low_tick w before) (high_tick w) r → Passed s before max_tick r
  passed_any short p = record { known = p.known; rising = p.rising; tick_high = omega (arith, p.tick_high); cost_low = p.cost_low; cost_high = p.cost_high }
  passed_any long p = record { known = p.known; rising = omega (arith, p.rising); tick_high = p.tick_high; cost_low = p.cost_low; cost_high = p.cost_high }

  passed_width : (w : Width) → Passed s (low_tick w before) (high_tick w) r → w ≡ width_for r.tick
  passed_width short p = sym (width_short r.tick p.tick_high)
  passed_width long p = sym (width_long r.tick (omega (arith, p.rising)))

  passed_short : r.tick ≤ max_short_tick → Passed s before max_tick r → Passed s (low_tick short before) (high_tick short) r
  passed_short h p = record { known = p.known; rising = p.rising; tick_high = h; cost_low = p.cost_low; cost_high = p.cost_high }

  passed_long : max_short_tick < r.tick → Passed s before max_tick r → Passed s (low_tick long before) (high_tick long) r
  passed_long h p = record { known = p.known; rising = omega (arith, h, p.rising); tick_high = p.tick_high; cost_low = p.cost_low; cost_high = p.cost_high }

  pub any_kind : (w : Width) → release_fault s (low_tick w before) (high_tick w) r ≡ none → release_fault s before max_tick r ≡ none
  any_kind w e = fault_none s before max_tick r (passed_any w (passed_of s (low_tick w before) (high_tick w) r e))

  pub kind_written : (w : Width) → release_fault s (low_tick w before) (high_tick w) r ≡ none → w ≡ width_for r.tick
  kind_written w e = passed_width w (passed_of s (low_tick w before) (high_tick w) r e)

  -- and back: a release of a list passes as a record of the kind that it is written in
  pub written_kind : release_fault s before max_tick r ≡ none → release_fault s (low_tick (width_for r.tick) before) (high_tick (width_for r.tick)) r ≡ none
  written_kind e =
      let p = passed_of s before max_tick r e in
      by_width r.tick
      (λ h. rw (width_short r.tick h) (fault_none s (low_tick short before) (high_tick short) r (passed_short h p)))
      (λ h. rw (width_long r.tick h) (fault_none s (low_tick long before) (high_tick long) r (passed_long h p)))

-- a release has at least one byte, and at most 14
pub size_low : (w : Width) → 10 ≤ release_size w
size_low short = omega arith
size_low long = omega arith

pub size_high : (w : Width) → release_size w ≤ 14
size_high short = omega arith
size_high long = omega arith

-- the bytes of two lists, and of one release more
pub list_append : (a b : List Release) → list_bytes (a ++ b) ≡ list_bytes a + list_bytes b
unfolding list_bytes
list_append [] b = omega arith
list_append (r ∷ a) b = omega (arith, list_append a b)

pub list_more : (l : List Release) (r : Release) → list_bytes (l ++ (r ∷ [])) ≡ list_bytes l + release_size (width_for r.tick)
unfolding list_bytes
list_more l r = list_append l (r ∷ []) ∙ omega arith

pub list_low : (l : List Release) → length l ≤ list_bytes l
unfolding list_bytes
list_low [] = omega arith
list_low (r ∷ l) = omega (arith, size_low (width_for r.tick), list_low l)

pub list_high : (l : List Release) → list_bytes l ≤ 14 * length l
unfolding list_bytes
list_high [] = omega arith
list_high (r ∷ l) = omega (arith, size_high (width_for r.tick), list_high l)
