-- A text in pieces.
use Prim.Native.Nat.{ℕ}
use mathlib.Core.Path.{◌≡◌, refl, ap, ◌∙◌}
use mathlib.Core.List.{List, [], ◌∷◌, ◌++◌}
use Rattle.loader.specs.declared.Loader.{Loader}
use Rattle.loader.specs.Loader.{stepped, fresh, fed}
use Rattle.loader.specs.Pieces.{Fed, PiecesJoin}

pub pieces_join : PiecesJoin
unfolding fed
pieces_join s [] b = refl
pieces_join s (x ∷ a) b = pieces_join (stepped s x) a b

-- nothing is fed yet, and one piece more
pub fed_nothing : (s : Loader) → s ≡ fresh → Fed s
unfolding fed
fed_nothing s e = record { text = []; is = e }

pub fed_more : (s t : Loader) (piece : List ℕ) → Fed s → t ≡ fed s piece → Fed t
fed_more s t piece f e = record { text = f.text ++ piece; is = e ∙ ap (λ q. fed q piece) f.is ∙ pieces_join fresh f.text piece }
