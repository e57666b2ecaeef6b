-- Rows of releases: one more at their end, and the first of them.
use Prim.Native.Nat.{ℕ, suc, ◌+◌, ◌≤◌, ◌<◌}
use mathlib.Core.Path.{◌≡◌, refl, sym, ap, ap₂, ◌∙◌}
use mathlib.Core.List.{List, [], ◌∷◌, ◌++◌}
use native.Mathlib.Omega.{arith}
use native.Mathlib.Numerals.{add-one}
use lib.ListN.{length, get_or, set}
use lib.Seq.{get_or-set_same, get_or-set_other}
use Rattle.model.specs.Tasks.{Release, release_at}
use Rattle.model.specs.Series.{table}
use Rattle.model.specs.Calls.{releases_of}
use Rattle.model.proofs.TableLaws.{table_agree}
use Rattle.releases.specs.Releases.{release}
use Rattle.releases.proofs.ReleaseLaws.{release_at_lem}

-- one row more
pub releases_suc
    : (n : ℕ) (task tick cost : List ℕ)
    → releases_of (suc n) task tick cost ≡ releases_of n task tick cost ++ (release (get_or task n 0) (get_or tick n 0) (get_or cost n 0) ∷ [])
unfolding releases_of table
releases_suc n task tick cost = refl

module _ (n : ℕ) (task tick cost : List ℕ) (i a e : ℕ) where
  same : {x y z x' y' z' : ℕ} → x ≡ x' → y ≡ y' → z ≡ z' → release x y z ≡ release x' y' z'
  same f g h = cc

  -- a release put at place n leaves the first n as they were
  pub releases_before : releases_of n (set task n i) (set tick n a) (set cost n e) ≡ releases_of n task tick cost
  unfolding releases_of
  releases_before =
      table_agree _ _ n
      (λ p b.
      same
      (get_or-set_other task n p i 0 (λ q. omega arith))
      (get_or-set_other tick n p a 0 (λ q. omega arith))
      (get_or-set_other cost n p e 0 (λ q. omega arith)))

  -- and comes after them
  pub releases_set
      : n < length task → n < length tick → n < length cost
      → releases_of (n + 1) (set task n i) (set tick n a) (set cost n e) ≡ releases_of n task tick cost ++ (release i a e ∷ [])
  releases_set h k m =
      ap (λ (x : ℕ). releases_of x (set task n i) (set tick n a) (set cost n e)) (add-one n)
      ∙ last
      ∙ ap₂ (λ (l : List Release) (r : Release). l ++ (r ∷ [])) releases_before
      (same (get_or-set_same task n i 0 h) (get_or-set_same tick n a 0 k) (get_or-set_same cost n e 0 m))
    where
      last
          : releases_of (suc n) (set task n i) (set tick n a) (set cost n e)
          ≡ releases_of n (set task n i) (set tick n a) (set cost n e) ++ (release (get_or (set task n i) n 0) (get_or (set tick n a) n 0) (get_or (set cost n e) n 0) ∷ [])
      last = releases_suc n (set task n i) (set tick n a) (set cost n e)

-- rows that hold the same releases
module _ (n : ℕ) (task tick cost task' tick' cost' : List ℕ) (e : releases_of n task' tick' cost' ≡ releases_of n task tick cost) where
  entry : (p : ℕ) → p < n → release (get_or task' p 0) (get_or tick' p 0) (get_or cost' p 0) ≡ release (get_or task p 0) (get_or tick p 0) (get_or cost p 0)
  entry p h = sym (release_at_lem n task' tick' cost' p h) ∙ ap (λ (l : List Release). release_at l p) e ∙ release_at_lem n task tick cost p h

  -- have the same ticks
  pub same_tick : (p : ℕ) → p < n → get_or tick' p 0 ≡ get_or tick p 0
  same_tick p h = ap (λ (r : Release). r.tick) (entry p h)

  -- and the same first ones
  pub same_first : (m : ℕ) → m ≤ n → releases_of m task' tick' cost' ≡ releases_of m task tick cost
  unfolding releases_of
  same_first m h = table_agree _ _ m (λ p b. entry p (omega arith))
