-- A text in pieces, and when the answer is decided: the statements. proofs/PieceLaws.antt, proofs/LoadLaws.antt and proofs/OpenLaws.antt prove them under the
-- names given here.
use Rattle.std.specs.Prelude.{ℕ, ◌≡◌, true, false, List, ◌++◌}
use Rattle.textformat.specs.TextSheet.{load}
use Rattle.loader.specs.declared.Loader.{Loader}
use Rattle.loader.specs.Loader.{fresh, fed, decided, closed, LoadSays}

-- a loader that was fed some text, in whatever pieces
pub record Fed (s : Loader) : Type 0 where
  pub text : List ℕ
  pub is : s ≡ fed fresh text

-- `pieces_join`: feeding a, then b, is feeding a ++ b
abbrev pub PiecesJoin : Type 0
PiecesJoin = (s : Loader) (a b : List ℕ) → fed (fed s a) b ≡ fed s (a ++ b)

-- `closed_says`: a loader that was fed a text, in whatever pieces, answers what the text answers
abbrev pub ClosedSays : Type 0
ClosedSays = (text : List ℕ) → LoadSays (load text) (closed (fed fresh text))

-- `decided_stays`: once decided, nothing that follows changes what the text answers
abbrev pub DecidedStays : Type 0
DecidedStays = (text more : List ℕ) → decided (fed fresh text) ≡ true → load (text ++ more) ≡ load text

-- two ways in which a text may go on that give different answers
pub record Open (text : List ℕ) : Type 0 where
  pub one : List ℕ
  pub other : List ℕ
  pub differ : load (text ++ one) ≡ load (text ++ other) → ⊥

-- `undecided_open`: until the answer is decided what follows counts, so that none could be given earlier
abbrev pub UndecidedOpen : Type 0
UndecidedOpen = (text : List ℕ) → decided (fed fresh text) ≡ false → Open text
