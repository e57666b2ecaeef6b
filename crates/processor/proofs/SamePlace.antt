-- The place of a release among its task's, in the list and counted over positions.
use Prim.Native.Nat.{ℕ, ◌<◌}
use mathlib.Core.Path.{◌≡◌, sym, ◌∙◌}
use mathlib.Core.List.{List}
use native.Mathlib.Omega.{arith}
use lib.ListN.{length}
use Rattle.model.specs.Tasks.{Release, release_at}
use Rattle.model.specs.Gap.{own}
use Rattle.model.specs.Ready as Model
use Rattle.trace.proofs.PositionLaws.{place_of, place_count, own_count}
use Rattle.theory.proofs.JobWindows.{place}

module _ (l : List Release) (i : ℕ) where
  -- the releases of task i before a release of task i
  pub same_place : (p : ℕ) → p < length l → (release_at l p).task ≡ i → place (λ n. (release_at l n).task) i p ≡ Model.place l p
  unfolding place
  same_place p h e = sym (place_of l i p e ∙ place_count l i p (omega arith))

  -- all releases of task i
  pub all_places : place (λ n. (release_at l n).task) i (length l) ≡ length (own i l)
  unfolding place
  all_places = sym (own_count l i)
