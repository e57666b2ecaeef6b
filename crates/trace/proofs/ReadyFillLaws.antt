-- The loop that writes the ready ticks of a list.
use Prim.Native.Nat.{ℕ, ◌+◌, ◌≤◌, ◌<◌}
use mathlib.Core.Path.{◌≡◌, refl, sym, ap, ap₂, ◌∙◌}
use mathlib.Core.List.{List, [], ◌∷◌, ◌++◌}
use native.Mathlib.Omega.{arith}
use native.Mathlib.Numerals.{add-one}
use lib.ListN.{length, get_or, take, drop, set, length-set, take-append-drop}
use lib.Seq.{take-suc-set, drop-set-lt, drop-drop}
use Rattle.model.specs.Series.{table}
use Rattle.model.specs.Tasks.{Tasks}
use Rattle.model.specs.Ready.{ready_at, ready_list}
use Rattle.model.specs.Calls.{releases_of}
use Rattle.shaper.specs.declared.Shaper.{Shaper}
use Rattle.shaper.specs.declared.Shaped.{Shaped}
use Rattle.releases.proofs.ReleaseLaws.{length_releases}
use Rattle.trace.specs.Standing.{Standing}
use Rattle.trace.specs.TraceCalls.{Shapable}
use Rattle.trace.proofs.CloseWalkLaws.{Walking, walk_fresh, walk_next, walk_ready, Step}

-- the invariant of the loop that writes ready ticks
pub record Filling (s : Tasks) (k : ℕ → ℕ) (n : ℕ) (task tick o₀ : List ℕ) (m : List Shaper) (o : List ℕ) (p : ℕ) : Type 0 where
  pub walking : Walking s k n task tick m p
  pub long : length o ≡ length o₀
  pub kept : drop p o ≡ drop p o₀
  pub done : (cost : List ℕ) → take p o ≡ table (ready_at s k (releases_of n task tick cost)) p

module _ (s : Tasks) (k : ℕ → ℕ) (n : ℕ) (task tick o₀ : List ℕ) where
  pub filling_none : (m : List Shaper) → Standing s.period k (λ i. []) s.count m → Filling s k n task tick o₀ m o₀ 0
  unfolding table
  filling_none m st = record { walking = walk_fresh s k n task tick m st; long = refl; kept = refl; done = λ cost. refl }

  pub filling_next
      : Shapable s n task tick
      → n ≤ length o₀
      → (m : List Shaper) (o : List ℕ) (p : ℕ)
      → Filling s k n task tick o₀ m o p
      → p < n
      → (g : Shaped)
      → Step task tick m p g
      → Filling s k n task tick o₀ (set m (get_or task p 0) g.state) (set o p g.ready) (p + 1)
  unfolding table
  filling_next w long m o p f h g e =
      record {
        walking = walk_next s k n task tick w m p f.walking h g e;
        long = simp length-set f.long;
        kept = drop-set-lt (p + 1) o p _ (omega arith) ∙ sym (drop-drop 1 p o) ∙ ap (drop 1) f.kept ∙ drop-drop 1 p o₀;
        done = λ cost.
            rw (add-one, take-suc-set o p g.ready (omega (arith, f.long)))
            (ap₂ (λ (x : List ℕ) (y : ℕ). x ++ (y ∷ [])) (f.done cost) (walk_ready s k n task tick w m p f.walking h g e cost));
      }

  pub filling_all
      : (m : List Shaper) (o : List ℕ) (p : ℕ)
      → Filling s k n task tick o₀ m o p
      → n ≤ p
      → (cost : List ℕ)
      → o ≡ ready_list s k (releases_of n task tick cost) ++ drop n o₀
  unfolding ready_list
  filling_all m o p f h cost =
      let e : p ≡ n = omega (arith, f.walking.within) in
      let done : take n o ≡ ready_list s k (releases_of n task tick cost) =
      rw e at (f.done cost) ∙ ap (table (ready_at s k (releases_of n task tick cost))) (sym (length_releases n task tick cost)) in
      sym (take-append-drop n o) ∙ ap₂ ◌++◌ done (rw e at f.kept)
