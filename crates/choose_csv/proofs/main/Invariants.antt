-- From turn to turn the loader holds what was fed to it.
use Rattle.loader.specs.Pieces.{Fed}
use Rattle.choose_csv.proofs.main.Given as goal

abbrev pub invariant-loop : goal.invariant-loop
invariant-loop l = Fed l.l
