-- Lines and fields. "Each line is P,J,E,D .., ended by a line feed."
use Rattle.std.specs.Prelude.{ℕ, Bool, true, false, List, [], ◌∷◌, ◌++◌, eqb}
use Rattle.text.specs.Text.{line_feed}

-- a comma
abbrev pub comma : ℕ
comma = 44

-- a line: its bytes without the line feed, and whether a line feed ends it
pub record Line : Type 0 where
  pub bytes : List ℕ
  pub ended : Bool

-- what follows the last line feed: a line that none ends, or nothing
unfoldable pub last_line : List ℕ → List Line
last_line [] = []
last_line (b ∷ l) = record { bytes = b ∷ l; ended = false } ∷ []

-- the lines of c ++ text, where c has no line feed
unfoldable pub lines_from : List ℕ → List ℕ → List Line
lines_from c [] = last_line c
lines_from c (b ∷ l) =
    elim (eqb b line_feed) [
      | true ↦ record { bytes = c; ended = true } ∷ lines_from [] l
      | false ↦ lines_from (c ++ (b ∷ [])) l
    ]

-- a text is a row of lines ended by line feeds
unfoldable pub lines_of : List ℕ → List Line
lines_of text = lines_from [] text

-- the fields of c ++ bytes, where c has no comma
unfoldable pub fields_from : List ℕ → List ℕ → List (List ℕ)
fields_from c [] = c ∷ []
fields_from c (b ∷ l) = elim (eqb b comma) [ true ↦ c ∷ fields_from [] l | false ↦ fields_from (c ++ (b ∷ [])) l ]

-- what stands between the commas of a line
unfoldable pub fields_of : List ℕ → List (List ℕ)
fields_of bytes = fields_from [] bytes
