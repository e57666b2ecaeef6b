-- What is left of the piece is fed to the tasks and the line as they are now.
use mathlib.Core.Path.{◌≡◌}
use lib.ListN.{drop}
use Rattle.loader.specs.Loader.{going, fed}
use Rattle.loader.proofs.feed.Given as goal

abbrev pub invariant-loop-b : goal.invariant-loop-b
invariant-loop-b l = fed (going l.initial.tasks l.initial.line) l.piece ≡ fed (going l.tasks l.line) (drop l.b-index l.piece)
