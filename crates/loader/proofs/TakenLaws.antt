-- What a byte does to a line so far, case by case.
use Prim.Native.Nat.{ℕ, ◌-◌, ◌<◌, ◌≤◌}
use mathlib.Core.Path.{◌≡◌, refl}
use mathlib.Core.Bool.{Bool, true, false}
use native.Mathlib.Omega.{arith}
use lib.Dec.{eqb}
use borrow.Author.Tests.{lt-ltb, le-ltb, eq-eqb, ne_eqb}
use Rattle.text.specs.Text.{line_feed}
use Rattle.textformat.specs.Numerals.{is_digit}
use Rattle.textformat.specs.Lines.{comma}
use Rattle.loader.specs.declared.LineSoFar.{LineSoFar}
use Rattle.loader.specs.declared.Taken.TheVariants.{Goes, Ends, Broken}
use Rattle.loader.specs.Loader.{with_digit, with_comma, task_so_far, after_zero, taken}

module _ (m : LineSoFar) (b : ℕ) where
  -- a digit
  pub taken_leading : is_digit b ≡ true → after_zero m ≡ true → Broken ≡ taken m b
  unfolding taken
  taken_leading d z = rw (taken, d, z)

  pub taken_digit : is_digit b ≡ true → after_zero m ≡ false → Goes (with_digit m (b - 48)) ≡ taken m b
  unfolding taken
  taken_digit d z = rw (taken, d, z)

  module _ (d : is_digit b ≡ false) where
    -- another byte where the field has no digit
    pub taken_early : m.digit ≡ false → Broken ≡ taken m b
    unfolding taken
    taken_early z = go (eqb b comma) refl (eqb b line_feed) refl
      where
        go : (p : Bool) → eqb b comma ≡ p → (q : Bool) → eqb b line_feed ≡ q → Broken ≡ taken m b
        go true e q f = rw (taken, d, e, z)
        go false e true f = rw (taken, d, e, f, z)
        go false e false f = rw (taken, d, e, f)

    -- a comma
    pub taken_comma_over : b ≡ comma → 3 ≤ m.commas → Broken ≡ taken m b
    unfolding taken
    taken_comma_over e h = go m.digit refl
      where
        go : (p : Bool) → m.digit ≡ p → Broken ≡ taken m b
        go true z = rw (taken, d, eq-eqb b comma e, z, le-ltb m.commas 3 h)
        go false z = rw (taken, d, eq-eqb b comma e, z)

    pub taken_comma : b ≡ comma → m.digit ≡ true → m.commas < 3 → Goes (with_comma m) ≡ taken m b
    unfolding taken with_comma
    taken_comma e z h = rw (taken, with_comma, d, eq-eqb b comma e, z, lt-ltb m.commas 3 h)

    -- any other byte
    pub taken_other : (b ≡ comma → ⊥) → (b ≡ line_feed → ⊥) → Broken ≡ taken m b
    unfolding taken
    taken_other e f = rw (taken, d, ne_eqb b comma e, ne_eqb b line_feed f)

    -- a line feed
    pub taken_short : b ≡ line_feed → (m.commas ≡ 3 → ⊥) → Broken ≡ taken m b
    unfolding taken
    taken_short e h = go m.digit refl
      where
        go : (p : Bool) → m.digit ≡ p → Broken ≡ taken m b
        go true z = rw (taken, d, ne_eqb b comma (λ f. omega arith), eq-eqb b line_feed e, z, ne_eqb m.commas 3 h)
        go false z = rw (taken, d, ne_eqb b comma (λ f. omega arith), eq-eqb b line_feed e, z)

    pub taken_end : b ≡ line_feed → m.digit ≡ true → m.commas ≡ 3 → Ends (task_so_far m) ≡ taken m b
    unfolding taken
    taken_end e z h = rw (taken, d, ne_eqb b comma (λ f. omega arith), eq-eqb b line_feed e, z, eq-eqb m.commas 3 h)
