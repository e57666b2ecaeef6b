-- Laws of a part of a list: its releases, their bytes, and where the long records of a list begin.
use Prim.Native.Nat.{ℕ, zero, suc, ◌+◌, ◌-◌, ◌*◌, ◌≤◌, ◌<◌}
use mathlib.Core.Path.{◌≡◌, refl, sym, ap, ◌∙◌}
use mathlib.Core.List.{List, [], ◌∷◌, ◌++◌, append_assoc, append-nil, map, map-append}
use native.Mathlib.Omega.{arith}
use native.Mathlib.Nat.{suc-mul}
use native.Mathlib.Numerals.{add-one}
use lib.ListN.{length, get_or, drop, drop_of_length-le}
use lib.Seq.{drop-append-le}
use Rattle.model.specs.Limits.{max_short_tick}
use Rattle.model.specs.Series.{table}
use Rattle.model.specs.Tasks.{Release}
use Rattle.model.specs.Calls.{releases_of}
use Rattle.releases.specs.Releases.{release}
use Rattle.releases.proofs.ReleaseLaws.{length_releases}
use Rattle.fileformat.specs.Records.{Width, short, long, release_bytes, release_size, width_for, written_record}
use Rattle.fileformat.specs.File.{joined}
use Rattle.fileformat.specs.FileCalls.{list_bytes}
use Rattle.fileformat.proofs.WidthLaws.{width_short, width_long, size_high, list_append, list_more}
use Rattle.fileformat.proofs.RoundTrips.{release_part, written_bytes, joined_append, release_part_more, length_release_part}
use Rattle.writer.specs.Writer.{stored, part, Alike, Rising, Cut}
use Rattle.writer.proofs.StoreLaws.{stored_none, stored_at}

module _ (task tick cost : List ℕ) where
  -- the release at a place of the columns, and one more of them
  abbrev placed : ℕ → Release
  placed i = release (get_or task i 0) (get_or tick i 0) (get_or cost i 0)

  one_more : (i : ℕ) → releases_of (suc i) task tick cost ≡ releases_of i task tick cost ++ (placed i ∷ [])
  unfolding releases_of table
  one_more i = refl

  part_none : (i : ℕ) → part i i task tick cost ≡ []
  part_none i = drop_of_length-le (releases_of i task tick cost) {i = i} (omega (arith, length_releases i task tick cost))

  part_more : (first i : ℕ) → first ≤ i → part first (suc i) task tick cost ≡ part first i task tick cost ++ (placed i ∷ [])
  part_more first i h =
      ap (drop first) (one_more i) ∙ drop-append-le first (releases_of i task tick cost) (placed i ∷ []) (omega (arith, length_releases i task tick cost))

  bytes_more : (first i : ℕ) → first ≤ i → list_bytes (part first (suc i) task tick cost) ≡ list_bytes (part first i task tick cost) + release_size (width_for (get_or tick i 0))
  bytes_more first i h = ap list_bytes (part_more first i h) ∙ list_more (part first i task tick cost) (placed i)

  -- fewer releases have no more bytes
  bytes_rise : (first i d : ℕ) → first ≤ i → list_bytes (part first i task tick cost) ≤ list_bytes (part first (i + d) task tick cost)
  bytes_rise first i zero h = let e : i + 0 ≡ i = omega arith in rw e (omega arith)
  bytes_rise first i (suc d) h =
      let e : i + suc d ≡ suc (i + d) = omega arith in
      rw e (omega (arith, bytes_rise first i d h, bytes_more first (i + d) (omega arith)))

  -- a list is its first part and the rest
  part_both : (k d : ℕ) → part 0 k task tick cost ++ part k (k + d) task tick cost ≡ releases_of (k + d) task tick cost
  part_both k zero =
      let e : k + 0 ≡ k = omega arith in
      rw e (ap (λ x. releases_of k task tick cost ++ x) (part_none k) ∙ append-nil (releases_of k task tick cost))
  part_both k (suc d) =
      let e : k + suc d ≡ suc (k + d) = omega arith in
      rw e
      (ap (λ x. releases_of k task tick cost ++ x) (part_more k (k + d) (omega arith))
      ∙ sym (append_assoc (releases_of k task tick cost) (part k (k + d) task tick cost) (placed (k + d) ∷ []))
      ∙ ap (λ x. x ++ (placed (k + d) ∷ [])) (part_both k d)
      ∙ sym (one_more (k + d)))

  pub part_split : (k n : ℕ) → k ≤ n → part 0 k task tick cost ++ part k n task tick cost ≡ releases_of n task tick cost
  part_split k n h = let e : k + (n - k) ≡ n = omega arith in rw e at (part_both k (n - k))

  pub bytes_split : (k n : ℕ) → k ≤ n → list_bytes (part 0 k task tick cost) + list_bytes (part k n task tick cost) ≡ list_bytes (releases_of n task tick cost)
  bytes_split k n h = sym (list_append (part 0 k task tick cost) (part k n task tick cost)) ∙ ap list_bytes (part_split k n h)

  pub bytes_joined : (k n : ℕ) → k ≤ n → release_part (part 0 k task tick cost) ++ release_part (part k n task tick cost) ≡ release_part (releases_of n task tick cost)
  bytes_joined k n h =
      sym (joined_append (map written_record (part 0 k task tick cost)) (map written_record (part k n task tick cost)))
      ∙ ap joined (sym (map-append written_record (part 0 k task tick cost) (part k n task tick cost)))
      ∙ ap release_part (part_split k n h)

  -- a part of one kind has so many bytes for each release
  alike_bytes : (w : Width) (first d : ℕ) → Alike w first (first + d) tick → list_bytes (part first (first + d) task tick cost) ≡ d * release_size w
  unfolding list_bytes
  alike_bytes w first zero a =
      let e : first + 0 ≡ first = omega arith in
      rw e (ap list_bytes (part_none first) ∙ omega arith)
  alike_bytes w first (suc d) a =
      let e : first + suc d ≡ suc (first + d) = omega arith in
      rw e
      (bytes_more first (first + d) (omega arith)
      ∙ omega (
        arith,
        alike_bytes w first d (λ p f l. a p f (omega arith)),
        ap release_size (a (first + d) (omega arith) (omega arith)),
        suc-mul d (release_size w),
      ))

-- of ticks that never fall, those before the cut are short
module _ (n : ℕ) (tick : List ℕ) (k : ℕ) (r : Rising n tick) (c : Cut n tick k) where
  below : (d p : ℕ) → p + suc d ≡ k → get_or tick p 0 ≤ max_short_tick
  below zero p e = c.short_before p (omega arith)
  below (suc d) p e = omega (arith, r p (omega (arith, c.within)), below d (suc p) (omega arith))

  pub shorts_alike : Alike short 0 k tick
  shorts_alike p f l = width_short (get_or tick p 0) (below (k - suc p) p (omega arith))

pub longs_alike : (n : ℕ) (tick : List ℕ) (k : ℕ) → Cut n tick k → Alike long k n tick
longs_alike n tick k c p f l = width_long (get_or tick p 0) (c.longs p f l)

-- so the bytes of a list are known by its cut
pub cut_bytes
    : (n : ℕ) (task tick cost : List ℕ) (k : ℕ) → Rising n tick → Cut n tick k → 14 * n - 4 * k ≡ list_bytes (releases_of n task tick cost)
cut_bytes n task tick cost k r c =
    let e : k + (n - k) ≡ n = omega (arith, c.within) in
    let z : 0 + k ≡ k = omega arith in
    let a : list_bytes (part 0 k task tick cost) ≡ k * 10 = rw z at (alike_bytes task tick cost short 0 k (rw z (shorts_alike n tick k r c))) in
    let b : list_bytes (part k n task tick cost) ≡ (n - k) * 14 =
    rw e at (alike_bytes task tick cost long k (n - k) (rw e (longs_alike n tick k c))) in
    omega (arith, a, b, bytes_split task tick cost k n c.within, c.within)

-- a count of the bytes of a list, of which the first i releases are counted
pub record Sized (n : ℕ) (tick : List ℕ) (size i : ℕ) : Type 0 where
  pub within : i ≤ n
  pub few : n ≤ 1024
  pub tick_long : n ≤ length tick
  pub small : size ≤ 14 * i
  pub is : (task cost : List ℕ) → size ≡ list_bytes (releases_of i task tick cost)

module _ (n : ℕ) (tick : List ℕ) where
  pub sized_none : n ≤ 1024 → n ≤ length tick → Sized n tick 0 0
  unfolding list_bytes releases_of table
  sized_none f l = record { within = omega arith; few = f; tick_long = l; small = omega arith; is = λ task cost. refl }

  module _ (size i : ℕ) (s : Sized n tick size i) where
    pub sized_next : (z : ℕ) → i < n → z ≡ release_size (width_for (get_or tick i 0)) → Sized n tick (size + z) (i + 1)
    sized_next z h e = record {
      within = omega arith;
      few = s.few;
      tick_long = s.tick_long;
      small = omega (arith, s.small, e, size_high (width_for (get_or tick i 0)));
      is = λ task cost. rw add-one (omega (arith, s.is task cost, e, bytes_more task tick cost 0 i (omega arith)));
    }

    pub sized_all : n ≤ i → (task cost : List ℕ) → size ≡ list_bytes (releases_of n task tick cost)
    sized_all h task cost = let e : i ≡ n = omega (arith, s.within) in rw e at (s.is task cost)

-- a part of a list, of which the releases below i are written
pub record PartPut (held : List ℕ) (from first last : ℕ) (w : Width) (task tick cost now : List ℕ) (at i : ℕ) : Type 0 where
  pub begun : first ≤ i
  pub within : i ≤ last
  pub offset : at ≡ from + list_bytes (part first i task tick cost)
  pub room : from + list_bytes (part first last task tick cost) ≤ length now
  pub long : length now ≡ length held
  pub task_long : last ≤ length task
  pub tick_long : last ≤ length tick
  pub cost_long : last ≤ length cost
  pub alike : Alike w first last tick
  pub front : now ≡ stored held from (release_part (part first i task tick cost))

module _ (held : List ℕ) (from first last : ℕ) (w : Width) (task tick cost : List ℕ) where
  pub put_none
      : from + list_bytes (part first last task tick cost) ≤ length held → first ≤ last → last ≤ length task → last ≤ length tick → last ≤ length cost
      → Alike w first last tick → PartPut held from first last w task tick cost held from first
  unfolding joined list_bytes
  put_none r l a b c e =
      record {
        begun = omega arith;
        within = l;
        offset = sym (ap (λ x. from + list_bytes x) (part_none task tick cost first) ∙ omega arith);
        room = r;
        long = refl;
        task_long = a;
        tick_long = b;
        cost_long = c;
        alike = e;
        front = stored_none held from ∙ ap (λ x. stored held from (release_part x)) (sym (part_none task tick cost first));
      }

  module _ (now : List ℕ) (at i : ℕ) (p : PartPut held from first last w task tick cost now at i) where
    pub next_alike : i < last → width_for (get_or tick i 0) ≡ w
    next_alike h = p.alike i p.begun h

    -- the bytes of the next release have room
    pub next_room : i < last → at + release_size w ≤ length now
    next_room h =
        let e : suc i + (last - suc i) ≡ last = omega arith in
        let b = rw e at (bytes_rise task tick cost first (suc i) (last - suc i) (omega (arith, p.begun))) in
        omega (arith, p.offset, p.room, b, bytes_more task tick cost first i p.begun, ap release_size (next_alike h))

    pub put_next
        : (now' : List ℕ) → i < last → now' ≡ stored now at (release_bytes w (release (get_or task i 0) (get_or tick i 0) (get_or cost i 0))) → length now' ≡ length now
        → PartPut held from first last w task tick cost now' (at + release_size w) (i + 1)
    put_next now' h e g =
        let r : Release = placed task tick cost i in
        let done = part first i task tick cost in
        record {
          begun = omega (arith, p.begun);
          within = omega arith;
          offset = rw add-one (omega (arith, p.offset, ap release_size (next_alike h), bytes_more task tick cost first i p.begun));
          room = omega (arith, p.room);
          long = g ∙ p.long;
          task_long = p.task_long;
          tick_long = p.tick_long;
          cost_long = p.cost_long;
          alike = p.alike;
          front =
              rw add-one
              (e ∙ ap (λ v. stored now at (release_bytes v r)) (sym (next_alike h)) ∙ ap (λ x. stored x at (written_bytes r)) p.front
              ∙ stored_at held (release_part done) (written_bytes r) from at (omega (arith, p.offset, length_release_part done))
              ∙ ap (stored held from) (sym (ap release_part (part_more task tick cost first i p.begun) ∙ release_part_more done r)));
        }

    pub put_all : last ≤ i → now ≡ stored held from (release_part (part first last task tick cost))
    put_all h = let e : i ≡ last = omega (arith, p.within) in p.front ∙ ap (λ k. stored held from (release_part (part first k task tick cost))) e

    pub put_end : last ≤ i → at ≡ from + list_bytes (part first last task tick cost)
    put_end h = let e : i ≡ last = omega (arith, p.within) in p.offset ∙ ap (λ k. from + list_bytes (part first k task tick cost)) e
