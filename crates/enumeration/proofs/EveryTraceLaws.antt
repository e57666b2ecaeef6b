-- The list of small traces has each of them once, and no other list of releases, in the stated order.
use Prim.Native.Nat.{ℕ, suc, ◌*◌, ◌≤◌}
use mathlib.Core.Path.{◌≡◌, refl, sym, ap, ◌∙◌}
use mathlib.Core.Logic.{inl, inr, ⊎_elim}
use mathlib.Core.List.{List, []}
use native.Mathlib.Omega.{arith}
use lib.ListN.{length}
use Rattle.model.specs.Tasks.{Tasks, Release, release_at}
use Rattle.enumeration.specs.SmallTraces.{joined, extended, traces_of, small_traces}
use Rattle.enumeration.specs.EveryTrace.{Small, FirstDiffers, Earlier, Member, EveryTrace}
use Rattle.enumeration.proofs.JoinedLaws.{All, Ordered, all_joined, member_joined, ordered_joined, ordered_once}
use Rattle.enumeration.proofs.PairLaws.{before_once}
use Rattle.enumeration.proofs.GrownLaws.{Grown, extended_grown, grown_member, extended_ordered}
use Rattle.enumeration.proofs.SmallLaws.{steps_small, small_steps}

-- no trace is before itself
pub earlier_other : (a : List Release) → Earlier a a → ⊥
earlier_other a h =
    ⊎_elim
    (λ i. omega arith)
    (λ i. let f : FirstDiffers a a = i.1 in before_once (release_at a f.at) (release_at a f.at) f.before f.before)
    h

module _ (s : Tasks) (t : ℕ) (some_task : 1 ≤ s.count) where
  -- the traces of n releases are made of n releases that can follow one another,
  traces_grown : (n : ℕ) → All [] (Grown s (t * s.count) n 0 []) (traces_of s t n)
  unfolding traces_of
  traces_grown n = extended_grown s (t * s.count) n 0 []

  -- so they have as many ..
  pub traces_long : (n : ℕ) → All [] (λ m. length m ≡ n) (traces_of s t n)
  traces_long n p h = ap length (traces_grown n p h).is ∙ (traces_grown n p h).long

  -- .. and are small
  pub traces_small : (n k : ℕ) → n ≤ k → All [] (Small s k t) (traces_of s t n)
  traces_small n k h p i = go (traces_grown n p i)
    where
      go : {m : List Release} → Grown s (t * s.count) n 0 [] m → Small s k t m
      go g = rw g.is (steps_small s some_task k t g.rest (omega (arith, g.long)) g.steps)

  -- a small trace is one of those of its number of releases
  pub small_member : (n : ℕ) (l : List Release) → Small s n t l → Member [] l (traces_of s t (length l))
  unfolding traces_of
  small_member n l m = grown_member s (t * s.count) (length l) refl (small_steps s some_task t n l m)

  -- the traces of n releases are in the stated order ..
  pub traces_ordered : (n : ℕ) → Ordered [] Earlier (traces_of s t n)
  unfolding traces_of
  traces_ordered n p q h k =
      inr (traces_long n p (omega arith) ∙ sym (traces_long n q k), extended_ordered s (t * s.count) some_task n 0 [] p q h k)

  module _ (n : ℕ) where
    -- .. and so are those of up to n
    small_ordered : Ordered [] Earlier (small_traces s n t)
    unfolding small_traces
    small_ordered =
        ordered_joined [] Earlier (traces_of s t) 0 (suc n) (λ y h k. traces_ordered y)
        (λ y z h k u p q i j. inl (omega (arith, traces_long y p i, traces_long z q j)))

-- the list of small traces of a sheet with a task: every member is one, every one is a member, the order is the stated one, none is there twice, and the
-- first is the empty one
pub every_trace : EveryTrace
unfolding small_traces joined traces_of extended
every_trace s n t some_task =
    record {
      sound = all_joined [] (Small s n t) (traces_of s t) 0 (suc n) (λ y h k. traces_small s t some_task y n (omega arith));
      whole = λ l m. member_joined [] (traces_of s t) 0 (suc n) (length l) (omega arith) (omega (arith, m.few)) (small_member s t some_task n l m);
      order = small_ordered s t some_task n;
      once = ordered_once [] Earlier (small_traces s n t) earlier_other (small_ordered s t some_task n);
      some_trace = omega arith;
      first = refl;
    }
