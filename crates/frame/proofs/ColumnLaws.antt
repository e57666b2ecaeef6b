-- Laws of the windows of a frame as columns: filled, summed, looked through.
use Prim.Native.Nat.{ℕ, suc, ◌+◌, ◌-◌, ◌*◌, ◌%◌, ◌≤◌, ◌<◌, min}
use mathlib.Core.Path.{◌≡◌, refl, sym, ap, ◌∙◌}
use mathlib.Core.Bool.{Bool, true, false, not, ◌&&◌}
use mathlib.Core.Logic.{◌⊎◌, inl, inr}
use mathlib.Core.Option.{some, none}
use mathlib.Core.List.{List}
use Rattle.std.specs.Prelude.{Some, None}
use native.Mathlib.Omega.{arith}
use native.Mathlib.Numerals.{add-one}
use borrow.Author.Tests.{not-true, not-false, le-leb, lt-leb, lt-ltb, le-ltb}
use lib.Dec.{leb, ltb}
use lib.ListN.{replicate, set}
use Rattle.model.specs.Limits.{max_frame, max_windows}
use Rattle.model.specs.Series.{sum}
use Rattle.model.specs.Choice.{column}
use Rattle.model.specs.Frame.{InRules, in_window, in_some, ours_in}
use Rattle.model.specs.Slots.{Holds}
use Rattle.model.proofs.SeriesLaws.{tests, below_suc, sum_eq}
use Rattle.model.proofs.SlotLaws.{holds_none, holds_next}
use Rattle.model.proofs.FrameLaws.{Ruled, some_in}
use Rattle.frame.specs.declared.Frame.{Frame}
use Rattle.frame.specs.FrameView.{windows_of}
use Rattle.frame.specs.Starts.{start_at, starts_of}
use Rattle.frame.specs.WindowColumns.{column_windows, column_frame, Windows, FrameColumns, IsWithin, Located, Prepared}
use Rattle.frame.proofs.WindowLaws.{some_none}

-- the ticks of the first k windows among the first x of the frame, summed
pub record Summed (first size : List ℕ) (n x k r : ℕ) : Type 0 where
  pub up_to : k ≤ n
  pub is : r ≡ sum (λ m. min (x - column first m) (column size m)) k
  pub high : r ≤ max_frame * k

-- columns that hold first ticks and lengths of the first j windows of a frame, and 0 past them, and the lengths added up
pub record Copied (f : Frame) (j per : ℕ) (first size : List ℕ) : Type 0 where
  pub within : j ≤ f.count
  pub of_first : Holds (windows_of f).first j max_windows first
  pub of_size : Holds (windows_of f).size j max_windows size
  pub added : per ≡ sum (windows_of f).size j
  pub added_high : per ≤ max_frame * j

-- tick r of the windows is tick l of those from k on
pub record Passed (size : List ℕ) (n r k l : ℕ) : Type 0 where
  pub up_to : k ≤ n
  pub is : r ≡ sum (column size) k + l
  pub low : 1 ≤ l

module _ (first size : List ℕ) (n : ℕ) (w : Windows first size n) where
  pub summed_none : (x : ℕ) → Summed first size n x 0 0
  unfolding sum
  summed_none x = record { up_to = omega arith; is = refl; high = omega arith }

  pub summed_next : (x k r p : ℕ) → Summed first size n x k r → k < n → p ≡ min (x - column first k) (column size k) → Summed first size n x (k + 1) (r + p)
  unfolding sum
  summed_next x k r p f l e =
      record { up_to = omega arith; is = rw (add-one, f.is, e); high = omega (arith, w.size_high k l, f.high) }

  pub summed_all : (x k r : ℕ) → Summed first size n x k r → n ≤ k → IsWithin first size n x r
  summed_all x k r f l =
      let e : k ≡ n = omega (arith, f.up_to) in
      record { is = f.is ∙ ap (sum (λ m. min (x - column first m) (column size m))) e; high = omega (arith, f.high, f.up_to, w.few) }

  pub passed_none : (r : ℕ) → 1 ≤ r → Passed size n r 0 r
  unfolding sum
  passed_none r h = record { up_to = omega arith; is = omega arith; low = h }

  pub passed_next : (r k l : ℕ) → Passed size n r k l → k < n → column size k < l → Passed size n r (k + 1) (l - column size k)
  unfolding sum
  passed_next r k l f b h = record { up_to = omega arith; is = rw add-one (omega (arith, f.is)); low = omega arith }

  pub passed_here : (r k l : ℕ) → Passed size n r k l → k < n → l ≤ column size k → Located first size n r (column first k + l)
  passed_here r k l f b h = record { which = k; left = l; known = b; low = f.low; high = h; counted = f.is; place = refl }

  pub passed_all : (r k l : ℕ) → Passed size n r k l → r ≤ sum (column size) n → n ≤ k → ⊥
  passed_all r k l f h b =
      let e : k ≡ n = omega (arith, f.up_to) in
      omega (arith, f.is, f.low, ap (sum (column size)) e)

-- a tick in one window, as a difference and as the definition has it
pub window_before : (first size x : ℕ) → x < first → false ≡ (leb first x && ltb x (first + size))
window_before first size x h = rw (lt-leb first x h)

pub window_by : (first size x : ℕ) → first ≤ x → ltb (x - first) size ≡ (leb first x && ltb x (first + size))
window_by first size x h = rw (le-leb first x h) (go (ltb (x - first) size) refl)
  where
    go : (b : Bool) → ltb (x - first) size ≡ b → b ≡ ltb x (first + size)
    go true e = sym (lt-ltb x (first + size) (omega tests))
    go false e = sym (le-ltb x (first + size) (omega tests))

-- no window below k has tick x
pub record Outside (first size : List ℕ) (n x k : ℕ) : Type 0 where
  pub up_to : k ≤ n
  pub each : (m : ℕ) → m < k → (leb (column first m) x && ltb x (column first m + column size m)) ≡ false

module _ (first size : List ℕ) (n x : ℕ) where
  pub outside_none : Outside first size n x 0
  outside_none = record { up_to = omega arith; each = λ m l. absurd (omega arith) }

  pub outside_next
      : (k : ℕ) (r : Bool) → Outside first size n x k → k < n → r ≡ (leb (column first k) x && ltb x (column first k + column size k)) → r ≡ false
      → Outside first size n x (k + 1)
  outside_next k r o l e h = record { up_to = omega arith; each = λ m b. go m (below_suc m k (omega arith)) }
    where
      go : (m : ℕ) → (m < k) ⊎ (m ≡ k) → (leb (column first m) x && ltb x (column first m + column size m)) ≡ false
      go m (inl b) = o.each m b
      go m (inr b) = rw b (sym e ∙ h)

  pub outside_here
      : (k : ℕ) (r : Bool) → k < n → r ≡ (leb (column first k) x && ltb x (column first k + column size k)) → r ≡ true
      → (ticks : ℕ) → true ≡ in_some (column_windows ticks n first size) n x
  unfolding in_window
  outside_here k r l e h ticks = sym (some_in (column_windows ticks n first size) n k x l (sym e ∙ h))

  pub outside_all : (k : ℕ) → Outside first size n x k → n ≤ k → (ticks : ℕ) → false ≡ in_some (column_windows ticks n first size) n x
  unfolding in_window
  outside_all k o l ticks = sym (some_none (column_windows ticks n first size) n x (λ m b. o.each m (omega arith)))

module _ (f : Frame) (h : InRules (windows_of f)) where
  pub copied_none : Copied f 0 0 (replicate max_windows 0) (replicate max_windows 0)
  unfolding sum
  copied_none =
      record { within = omega arith; of_first = holds_none _ _; of_size = holds_none _ _; added = refl; added_high = omega arith }

  -- a window is small
  pub size_small : (k : ℕ) → k < f.count → (windows_of f).first k + (windows_of f).size k ≤ max_frame
  size_small k l = omega (arith, h.inside k l, h.ticks_high)

  pub copied_next
      : (k per : ℕ) (first size : List ℕ) → Copied f k per first size → k < f.count
      → Copied f (k + 1) (per + (windows_of f).size k) (set first k ((windows_of f).first k)) (set size k ((windows_of f).size k))
  unfolding sum
  copied_next k per first size c l =
      record {
        within = omega arith;
        of_first = holds_next _ _ k _ first c.of_first (omega (arith, h.count_high)) refl;
        of_size = holds_next _ _ k _ size c.of_size (omega (arith, h.count_high)) refl;
        added = rw (add-one, c.added);
        added_high = omega (arith, c.added_high, size_small k l);
      }

  -- the columns are those of the frame
  pub copied_all
      : (k per : ℕ) (first size : List ℕ) → Copied f k per first size → f.count ≤ k
      → Prepared (Some f) (record { framed = true; ticks = f.ticks; per = per; count = f.count; first = first; size = size })
  copied_all k per first size c l =
      record {
        supplies = record {
          columns = record {
            windows = record {
              few = h.count_high;
              first_long = omega (arith, c.of_first.long, h.count_high);
              size_long = omega (arith, c.of_size.long, h.count_high);
              first_high = λ m b. omega (arith, firsts m b, size_small m b);
              size_high = λ m b. omega (arith, sizes m b, size_small m b);
            };
            rules = λ p. ruled;
          };
          per_is =
              c.added ∙ ap (sum (windows_of f).size) k_is ∙ sym (sum_eq (column size) (windows_of f).size f.count sizes);
        };
        same = record { ticks = refl; count = refl; first = firsts; size = sizes };
      }
    where
      k_is : k ≡ f.count
      k_is = omega (arith, c.within)

      firsts : (m : ℕ) → m < f.count → column first m ≡ (windows_of f).first m
      firsts m b = c.of_first.each m (omega arith)

      sizes : (m : ℕ) → m < f.count → column size m ≡ (windows_of f).size m
      sizes m b = c.of_size.each m (omega arith)

      ruled : InRules (column_windows f.ticks f.count first size)
      ruled =
          record {
            ticks_low = h.ticks_low;
            ticks_high = h.ticks_high;
            count_low = h.count_low;
            count_high = h.count_high;
            size_low = λ m b. omega (arith, sizes m b, h.size_low m b);
            inside = λ m b. omega (arith, firsts m b, sizes m b, h.inside m b);
            apart = λ m b. omega (arith, firsts m (omega arith), sizes m (omega arith), firsts (suc m) b, h.apart m b);
          }

-- no frame has no windows
pub nothing_prepared : Prepared None (record { framed = false; ticks = 0; per = 0; count = 0; first = replicate 16 0; size = replicate 16 0 })
unfolding sum
nothing_prepared =
    record {
      supplies = record {
        columns = record {
          windows = record {
            few = omega arith;
            first_long = omega arith;
            size_long = omega arith;
            first_high = λ m b. absurd (omega arith);
            size_high = λ m b. absurd (omega arith);
          };
          rules = λ p. let z : ◌≡◌ {A = ℕ} 0 1 = cc in absurd (omega arith);
        };
        per_is = refl;
      };
      same = tt;
    }

-- the frame in columns, where there is none and where there is one
module _ (framed : Bool) (ticks count : ℕ) (first size : List ℕ) where
  pub ruled_columns : FrameColumns framed ticks count first size → Ruled (column_frame framed ticks count first size)
  ruled_columns c f e = go framed refl
    where
      go : (b : Bool) → framed ≡ b → InRules f
      go true x =
          let y : some (column_windows ticks count first size) ≡ some f = rw x at e in
          let z : column_windows ticks count first size ≡ f = cc in
          rw z at (c.rules x)
      go false x = let y : none ≡ some f = rw x at e in let z : ◌≡◌ {A = ℕ} 0 1 = cc in absurd (omega arith)

  pub ours_absent : not framed ≡ true → (t : ℕ) → ours_in (column_frame framed ticks count first size) t ≡ true
  ours_absent h t = rw (not-true framed h)

  pub ours_present
      : not framed ≡ false → (t x : ℕ) → x ≡ t % ticks → (r : Bool) → ((m : ℕ) → r ≡ in_some (column_windows m count first size) count x)
      → r ≡ ours_in (column_frame framed ticks count first size) t
  ours_present h t x e r g = rw (not-false framed h) (g ticks ∙ ap (in_some (column_windows ticks count first size) count) e)

  pub starts_absent : not framed ≡ true → 1 ≡ starts_of (column_frame framed ticks count first size)
  starts_absent h = rw (not-true framed h)

  pub starts_present : not framed ≡ false → count ≡ starts_of (column_frame framed ticks count first size)
  starts_present h = rw (not-false framed h)

  pub start_absent : (k : ℕ) → not framed ≡ true → 0 ≡ start_at (column_frame framed ticks count first size) k
  start_absent k h = rw (not-true framed h)

  pub start_present : (k : ℕ) → not framed ≡ false → (column first k + column size k) % ticks ≡ start_at (column_frame framed ticks count first size) k
  start_present k h = rw (not-false framed h)
