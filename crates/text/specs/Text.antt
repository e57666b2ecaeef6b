-- Text as a list of bytes.
use Rattle.std.specs.Prelude.{ℕ, zero, suc, ◌+◌, ◌/◌, ◌%◌, ◌≤◌, ◌≡◌, true, false, List, [], ◌∷◌, ◌++◌, length, ltb}
use Rattle.std.proofs.lemmas.List.Edits.{sets}

-- the byte of a line feed
abbrev pub line_feed : ℕ
line_feed = 10

-- the decimal digits of n, at most f of them
unfoldable pub digits : ℕ → ℕ → List ℕ
digits zero n = []
digits (suc f) n = elim (ltb n 10) [ true ↦ (48 + n) ∷ [] | false ↦ digits f (n / 10) ++ ((48 + n % 10) ∷ []) ]

-- n in decimal digits, without leading zeros
unfoldable pub decimal : ℕ → List ℕ
decimal n = digits (suc n) n

-- n and the byte that ends its field
unfoldable pub field : ℕ → ℕ → List ℕ
field n end = decimal n ++ (end ∷ [])

-- line 0, .., line (n - 1), one after the other
unfoldable pub lines : (ℕ → List ℕ) → ℕ → List ℕ
lines line zero = []
lines line (suc n) = lines line n ++ line n

-- a text was written into a buffer at a place: the buffer holds it there and else what it held, and the answer is the place after it
pub record Put (held : List ℕ) (at : ℕ) (text now : List ℕ) (r : ℕ) : Type 0 where
  pub holds : now ≡ sets held at text
  pub next : r ≡ at + length text

-- a field was written, of at most so many bytes
pub record PutField (most : ℕ) (held : List ℕ) (at n end : ℕ) (now : List ℕ) (r : ℕ) : Type 0 where
  pub put : Put held at (field n end) now r
  pub small : r ≤ at + most
  pub long : length now ≡ length held
