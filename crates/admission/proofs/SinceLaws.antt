-- Releases that a commit takes are a list that the other calls take too.
use Prim.Native.Nat.{ℕ, ◌≤◌}
use mathlib.Core.Path.{◌≡◌, refl, ◌∙◌}
use mathlib.Core.Option.{none}
use mathlib.Core.List.{List, [], ◌∷◌}
use native.Mathlib.Omega.{arith}
use Rattle.model.specs.Limits.{max_tick}
use Rattle.model.specs.Tasks.{Tasks, Release}
use Rattle.model.specs.Checks.{check_releases}
use Rattle.model.proofs.TraceLaws.{Passed, passed_of, fault_none, releases_next, passes_cons}

-- releases that pass from a tick on pass from every earlier one
pub since_passes : (s : Tasks) (low low' p : ℕ) (l : List Release) → low' ≤ low → check_releases s low p l ≡ none → check_releases s low' p l ≡ none
unfolding check_releases
since_passes s low low' p [] h e = refl
since_passes s low low' p (r ∷ l) h e =
    let w = passes_cons s low p r l e in
    let q = passed_of s low max_tick r w.0 in
    let q' : Passed s low' max_tick r =
    record { known = q.known; rising = omega (arith, q.rising); tick_high = q.tick_high; cost_low = q.cost_low; cost_high = q.cost_high } in
    releases_next s low' p r l (fault_none s low' max_tick r q') ∙ w.1
