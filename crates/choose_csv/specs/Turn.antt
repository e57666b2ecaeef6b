-- What the third program does with what a read brought.
use Rattle.std.specs.Prelude.{ℕ, Result, Ok, Err, true, false, List, eqb, length, take, min}
use Rattle.loader.specs.declared.Loader.{Loader}
use Rattle.loader.specs.Loader.{fed, decided}
use Rattle.choose_csv.specs.declared.Turn.{Turn}
use Rattle.choose_csv.specs.declared.Turn.TheVariants.{Fails, Prints, Reads}

-- a loader to which a piece was fed: the answer is printed once it is decided
unfoldable pub onward : Loader → Turn
onward s = elim (decided s) [ true ↦ Prints s | false ↦ Reads s ]

-- n bytes of the buffer follow in the text; none, where the text ends
unfoldable pub brought : Loader → List ℕ → ℕ → Turn
brought s piece n = elim (eqb n 0) [ true ↦ Prints s | false ↦ onward (fed s (take n piece)) ]

-- what a read answered: that it failed, and nothing is printed, or how many bytes it put into the buffer
abbrev pub turn_of : {E : Type 0} → Loader → List ℕ → Result ℕ E → Turn
turn_of s piece (Err e) = Fails
turn_of s piece (Ok n) = brought s piece (min n (length piece))
