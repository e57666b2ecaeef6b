-- Laws of lines and fields: where they end, and that joined again they are the bytes that were split.
use Prim.Native.Nat.{ℕ}
use mathlib.Core.Path.{◌≡◌, refl, sym, ap, ◌∙◌}
use mathlib.Core.Bool.{Bool, true, false}
use mathlib.Core.List.{List, [], ◌∷◌, ◌++◌, append_assoc, append-nil}
use native.Mathlib.Omega.{arith}
use borrow.Author.Tests.{ne_eqb, eqb-true}
use lib.Dec.{eqb}
use lib.Seq.{append_snoc}
use Rattle.model.proofs.CheckLaws.{both}
use Rattle.text.specs.Text.{line_feed}
use Rattle.textformat.specs.Numerals.{is_digit, all_digits}
use Rattle.textformat.specs.Lines.{comma, last_line, lines_from, lines_of, fields_from, fields_of}
use Rattle.textformat.specs.TextTrips.{line_bytes, lines_text, LinesJoin}

-- none of some bytes is the byte s
abbrev pub Without : ℕ → List ℕ → Type 0
Without s [] = Unit {0}
Without s (b ∷ l) = (b ≡ s → ⊥) × Without s l

-- nor of two rows of bytes one after the other
pub without_append : (s : ℕ) (g l : List ℕ) → Without s g → Without s l → Without s (g ++ l)
without_append s [] l h k = k
without_append s (b ∷ g) l h k = (h.0, without_append s g l h.1 k)

-- digits hold no other byte
pub digits_without : (s : ℕ) (g : List ℕ) → is_digit s ≡ false → all_digits g ≡ true → Without s g
unfolding all_digits
digits_without s [] n h = tt
digits_without s (b ∷ g) n h =
    let e = both (is_digit b) (all_digits g) h in
    (λ q. let z : true ≡ false = sym e.0 ∙ ap is_digit q ∙ n in let y : ◌≡◌ {A = ℕ} 0 1 = cc in omega arith, digits_without s g n e.1)

-- a line feed ends the line; another byte stays in it
module _ (c : List ℕ) (b : ℕ) (l : List ℕ) where
  pub line_ends : eqb b line_feed ≡ true → lines_from c (b ∷ l) ≡ record { bytes = c; ended = true } ∷ lines_from [] l
  unfolding lines_from
  line_ends e = rw (lines_from, e)

  pub line_stays : eqb b line_feed ≡ false → lines_from c (b ∷ l) ≡ lines_from (c ++ (b ∷ [])) l
  unfolding lines_from
  line_stays e = rw (lines_from, e)

-- and so do bytes without a line feed
line_runs : (c g l : List ℕ) → Without line_feed g → lines_from c (g ++ l) ≡ lines_from (c ++ g) l
line_runs c [] l h = rw append-nil
line_runs c (b ∷ g) l h =
    line_stays c b (g ++ l) (ne_eqb b line_feed h.0) ∙ line_runs (c ++ (b ∷ [])) g l h.1 ∙ ap (λ x. lines_from x l) (append_snoc c b g)

-- a line by itself, and those after it
pub line_first : (g l : List ℕ) → Without line_feed g → lines_of (g ++ (line_feed ∷ l)) ≡ record { bytes = g; ended = true } ∷ lines_of l
unfolding lines_of
line_first g l h = line_runs [] g (line_feed ∷ l) h ∙ line_ends g line_feed l refl

last_joins : (c : List ℕ) → lines_text (last_line c) ≡ c
unfolding lines_text last_line line_bytes
last_joins [] = refl
last_joins (b ∷ l) = append-nil (b ∷ l)

lines_from_join : (c l : List ℕ) → lines_text (lines_from c l) ≡ c ++ l
unfolding lines_from lines_text line_bytes
lines_from_join c [] = last_joins c ∙ sym (append-nil c)
lines_from_join c (b ∷ l) = go (eqb b line_feed) refl (lines_from_join [] l) (lines_from_join (c ++ (b ∷ [])) l)
  where
    go
        : (e : Bool) → eqb b line_feed ≡ e → lines_text (lines_from [] l) ≡ l → lines_text (lines_from (c ++ (b ∷ [])) l) ≡ c ++ (b ∷ []) ++ l
        → lines_text (lines_from c (b ∷ l)) ≡ c ++ (b ∷ l)
    go true h i k = rw (line_ends c b l h, lines_text, line_bytes, i, append_assoc, eqb-true b line_feed h)
    go false h i k = rw (line_stays c b l h) (k ∙ append_snoc c b l)

-- the lines, each with the line feed that ends it, are the text
pub lines_join : LinesJoin
unfolding lines_of
lines_join text = lines_from_join [] text

-- a comma ends the field; another byte stays in it
module _ (c : List ℕ) (b : ℕ) (l : List ℕ) where
  pub field_ends : eqb b comma ≡ true → fields_from c (b ∷ l) ≡ c ∷ fields_from [] l
  unfolding fields_from
  field_ends e = rw (fields_from, e)

  pub field_stays : eqb b comma ≡ false → fields_from c (b ∷ l) ≡ fields_from (c ++ (b ∷ [])) l
  unfolding fields_from
  field_stays e = rw (fields_from, e)

-- and so do bytes without a comma
field_runs : (c g l : List ℕ) → Without comma g → fields_from c (g ++ l) ≡ fields_from (c ++ g) l
field_runs c [] l h = rw append-nil
field_runs c (b ∷ g) l h =
    field_stays c b (g ++ l) (ne_eqb b comma h.0) ∙ field_runs (c ++ (b ∷ [])) g l h.1 ∙ ap (λ x. fields_from x l) (append_snoc c b g)

-- the end of the line ends the last field
pub field_last : (c : List ℕ) → fields_from c [] ≡ c ∷ []
unfolding fields_from
field_last c = refl

-- a field by itself, and those after it
pub field_first : (g l : List ℕ) → Without comma g → fields_of (g ++ (comma ∷ l)) ≡ g ∷ fields_of l
unfolding fields_of
field_first g l h = field_runs [] g (comma ∷ l) h ∙ field_ends g comma l refl

-- bytes without a comma are one field
pub field_alone : (g : List ℕ) → Without comma g → fields_of g ≡ g ∷ []
unfolding fields_of
field_alone g h = ap (fields_from []) (sym (append-nil g)) ∙ field_runs [] g [] h ∙ field_last g

-- fields, each after a comma
unfoldable pub commas : List (List ℕ) → List ℕ
commas [] = []
commas (f ∷ l) = comma ∷ (f ++ commas l)

fields_from_join : (c l : List ℕ) → commas (fields_from c l) ≡ comma ∷ (c ++ l)
unfolding fields_from commas
fields_from_join c [] = refl
fields_from_join c (b ∷ l) = go (eqb b comma) refl (fields_from_join [] l) (fields_from_join (c ++ (b ∷ [])) l)
  where
    go
        : (e : Bool) → eqb b comma ≡ e → commas (fields_from [] l) ≡ comma ∷ l → commas (fields_from (c ++ (b ∷ [])) l) ≡ comma ∷ (c ++ (b ∷ []) ++ l)
        → commas (fields_from c (b ∷ l)) ≡ comma ∷ (c ++ (b ∷ l))
    go true h i k = rw (field_ends c b l h, commas, i, eqb-true b comma h)
    go false h i k = rw (field_stays c b l h) (k ∙ ap (λ x. comma ∷ x) (append_snoc c b l))

-- the fields of a line, joined by commas, are the line's bytes
pub fields_join : (bytes : List ℕ) → commas (fields_of bytes) ≡ comma ∷ bytes
unfolding fields_of
fields_join bytes = fields_from_join [] bytes
