-- Laws of the columns that a read writes, and of its answer.
use Prim.Native.Nat.{ℕ, ◌+◌, ◌*◌, ◌-◌, ◌≤◌, ◌<◌}
use mathlib.Core.Path.{◌≡◌, refl, sym, ap, ap₂, ◌∙◌}
use mathlib.Core.Option.{some, none}
use mathlib.Core.List.{List, [], ◌∷◌, ◌++◌, map}
use Rattle.std.specs.Prelude.{Ok, Err}
use native.Mathlib.Omega.{arith}
use native.Mathlib.Numerals.{add-one}
use lib.Dec.{eqb}
use lib.ListN.{length, get_or, take, drop, set, length-set, length-map, take-append-drop, get_or-map}
use lib.Seq.{take-suc, take-suc-set, take-length, drop-set-lt, drop-drop}
use Rattle.model.specs.Tasks.{Release, no_release}
use Rattle.model.specs.Refusal.{Refusal, refuse, refused, answered}
use Rattle.refusal.specs.declared.Refusal.{Refusal as Refused}
use Rattle.refusal.specs.Refusal.{number_of}
use Rattle.model.specs.Checks.{Lent, check_slots}
use Rattle.model.specs.Calls.{lends, column_after}
use Rattle.model.proofs.TableLaws.{get_or_table}
use Rattle.records.specs.declared.Job.{Job}
use Rattle.records.specs.RecordIn.{release_of}
use Rattle.reader.specs.declared.Scanned.{Scanned}
use Rattle.fileformat.specs.Records.{width_in, Width, short, long, kind_of, body_size, release_record, release_from, release_size}
use Rattle.fileformat.specs.File.{File, decode}
use Rattle.fileformat.specs.FileCalls.{read_call, read_count, read_sheet, read_column}
use Rattle.reader.specs.Reader.{record_there, offset_of, release_in, releases_at, AreReleases, Listed, Copied, Putting, start_in, file_in, ScanSays, ReadSays}
use Rattle.fileformat.proofs.ReleasePlaces.{Placed, placed}
use Rattle.reader.proofs.ScanLaws.{length_releases, offset_more}

pub copied_none : (vals held : List ℕ) → Copied vals held held 0
copied_none vals held = record { front = refl; kept = refl; long = refl }

module _ (vals held now : List ℕ) (i : ℕ) (c : Copied vals held now i) where
  pub copied_next : (v : ℕ) → i < length vals → i < length now → v ≡ get_or vals i 0 → Copied vals held (set now i v) (i + 1)
  copied_next v h g e =
      record {
        front =
            rw add-one
            (take-suc-set now i v g ∙ ap₂ (λ a b. a ++ (b ∷ [])) c.front e ∙ sym (take-suc vals i 0 h));
        kept =
            drop-set-lt (i + 1) now i v (omega arith) ∙ sym (drop-drop 1 i now) ∙ ap (drop 1) c.kept ∙ drop-drop 1 i held;
        long = simp length-set c.long;
      }

  copied_here : Copied vals now now i
  copied_here = record { front = c.front; kept = refl; long = refl }

  copied_past : (n : ℕ) → i ≤ n → drop n now ≡ drop n held
  copied_past n h =
      let e : i + (n - i) ≡ n = omega arith in
      ap (λ k. drop k now) (sym e) ∙ sym (drop-drop (n - i) i now) ∙ ap (drop (n - i)) c.kept ∙ drop-drop (n - i) i held ∙ ap (λ k. drop k held) e

  pub copied_all : length vals ≤ i → i ≤ length vals → now ≡ column_after none vals held
  unfolding column_after
  copied_all h g =
      let e : i ≡ length vals = omega arith in
      sym (take-append-drop i now) ∙ ap₂ ◌++◌ (c.front ∙ ap (λ n. take n vals) e ∙ take-length vals) (c.kept ∙ ap (λ n. drop n held) e)

-- a column of the releases from an offset on
module _ (f : List ℕ) (start count : ℕ) (g : Release → ℕ) where
  abbrev column : List ℕ
  column = map g (releases_at f start count)

  length_column : length column ≡ count
  length_column = simp length-map (length_releases f start count)

  column_at : (i : ℕ) → i < count → g (release_in (record_there f (offset_of f start i))) ≡ get_or column i (g no_release)
  unfolding releases_at
  column_at i h = sym (get_or-map g (releases_at f start count) i no_release ∙ ap g (get_or_table _ no_release count i h))

  column_next
      : (held now : List ℕ) (i : ℕ) (r : Release)
      → Copied column held now i
      → i < count
      → count ≤ length now
      → r ≡ release_in (record_there f (offset_of f start i))
      → g no_release ≡ 0
      → Copied column held (set now i (g r)) (i + 1)
  column_next held now i r c h k e z =
      copied_next _ _ _ i c _ (omega (arith, length_column)) (omega arith) (ap g e ∙ column_at i h ∙ ap (get_or column i) z)

  column_then : (held now : List ℕ) (i : ℕ) → Copied column held now i → i ≤ count → column_after none column now ≡ column_after none column held
  unfolding column_after
  column_then held now i c h = ap (λ x. column ++ x) (copied_past column held now i c (length column) (omega (arith, length_column)))

  column_all : (held now : List ℕ) (i : ℕ) → Copied column held now i → count ≤ i → i ≤ count → now ≡ column_after none column held
  column_all held now i c h k = copied_all _ _ _ i c (omega (arith, length_column)) (omega (arith, length_column))

-- the kind byte at an offset tells how long the record of a release is
pub width_here : (f : List ℕ) (at : ℕ) (w : Width) (r : Release) → Placed f at w r → width_in (eqb (get_or f at 0) 4) ≡ w
width_here f at w r p = ap (λ k. width_in (eqb k 4)) p.kind ∙ by_kind w
  where
    by_kind : (w : Width) → width_in (eqb (kind_of w) 4) ≡ w
    by_kind short = refl
    by_kind long = refl

-- the release record at an offset, as it is read there
pub record Reading (f : List ℕ) (at : ℕ) : Type 0 where
  pub width : Width
  pub job : Release
  pub there : release_record width job ≡ record_there f at
  pub placed_there : Placed f at width job
  pub kind : width_in (eqb (get_or f at 0) 4) ≡ width

-- a record whose kind byte is 2 has a body of nine bytes
pub short_room : (f : List ℕ) (at : ℕ) → Reading f at → get_or f at 0 ≡ 2 → at + 1 + 9 ≤ length f
short_room f at r k =
    let w : short ≡ r.width = ap (λ b. width_in (eqb b 4)) (sym k) ∙ r.kind in
    omega (arith, r.placed_there.room, ap body_size w)

module _ (f : List ℕ) (start count : ℕ) (task₀ tick₀ cost₀ : List ℕ) where
  pub putting_none
      : start ≤ length f → AreReleases f start count → count ≤ length task₀ → count ≤ length tick₀ → count ≤ length cost₀
      → Putting f start count task₀ tick₀ cost₀ task₀ tick₀ cost₀ (start + 10 * 0) 0
  unfolding offset_of
  putting_none s h a b c =
      record {
        stand = h;
        offset = omega arith;
        inside = omega arith;
        within = omega arith;
        task_long = a;
        tick_long = b;
        cost_long = c;
        task_copied = copied_none _ _;
        tick_copied = copied_none _ _;
        cost_copied = copied_none _ _;
      }

  module _ (task tick cost : List ℕ) (at i : ℕ) (p : Putting f start count task₀ tick₀ cost₀ task tick cost at i) where
    pub reading : i < count → Reading f at
    reading h =
        let s = p.stand i h in
        let e : release_record s.0 s.1 ≡ record_there f at = s.2 ∙ ap (record_there f) (sym p.offset) in
        let q = placed f at s.0 s.1 e in
        record { width = s.0; job = s.1; there = e; placed_there = q; kind = width_here f at s.0 s.1 q }

    pub putting_next
        : (j : Job) (size : ℕ) → i < count → release_of j ≡ release_from (width_in (eqb (get_or f at 0) 4)) (drop (at + 1) f)
        → size ≡ release_size (width_in (eqb (get_or f at 0) 4))
        → Putting f start count task₀ tick₀ cost₀ (set task i j.task) (set tick i j.tick) (set cost i j.cost) (at + size) (i + 1)
    unfolding release_in
    putting_next j size h d z =
        let g = reading h in
        let e : release_of j ≡ release_in (record_there f (offset_of f start i)) =
        d ∙ ap (λ w. release_from w (drop (at + 1) f)) g.kind ∙ sym g.placed_there.body ∙ ap release_in (g.there ∙ ap (record_there f) p.offset) in
        record {
          stand = p.stand;
          offset = ap (λ k. at + k) (z ∙ ap release_size g.kind) ∙ offset_more f start i at g.width g.job p.offset g.there;
          inside = omega (arith, z, ap release_size g.kind, g.placed_there.room);
          within = omega arith;
          task_long = simp length-set p.task_long;
          tick_long = simp length-set p.tick_long;
          cost_long = simp length-set p.cost_long;
          task_copied = column_next f start count (λ r. r.task) task₀ task i (release_of j) p.task_copied h p.task_long e refl;
          tick_copied = column_next f start count (λ r. r.tick) tick₀ tick i (release_of j) p.tick_copied h p.tick_long e refl;
          cost_copied = column_next f start count (λ r. r.cost) cost₀ cost i (release_of j) p.cost_copied h p.cost_long e refl;
        }

    -- a short record
    pub putting_short
        : (j : Job) → i < count → at ≡ start + 10 * i → get_or f at 0 ≡ 2 → release_of j ≡ release_from short (drop (at + 1) f)
        → Putting f start count task₀ tick₀ cost₀ (set task i j.task) (set tick i j.tick) (set cost i j.cost) (start + 10 * (i + 1)) (i + 1)
    putting_short j h o k d =
        let w : width_in (eqb (get_or f at 0) 4) ≡ short = ap (λ b. width_in (eqb b 4)) k in
        let e : at + 10 ≡ start + 10 * (i + 1) = omega arith in
        rw e at (putting_next j 10 h (d ∙ ap (λ v. release_from v (drop (at + 1) f)) (sym w)) (sym (ap release_size w)))

    -- from here on, the slots past i are those that there are
    pub putting_here : Putting f start count task tick cost task tick cost at i
    putting_here = record {
      stand = p.stand;
      offset = p.offset;
      inside = p.inside;
      within = p.within;
      task_long = p.task_long;
      tick_long = p.tick_long;
      cost_long = p.cost_long;
      task_copied = copied_here _ _ _ i p.task_copied;
      tick_copied = copied_here _ _ _ i p.tick_copied;
      cost_copied = copied_here _ _ _ i p.cost_copied;
    }

    -- and a list written after that is written after all
    pub putting_then : (task' tick' cost' : List ℕ) → Listed (releases_at f start count) task tick cost task' tick' cost'
        → Listed (releases_at f start count) task₀ tick₀ cost₀ task' tick' cost'
    putting_then task' tick' cost' l = record {
      task_column = l.task_column ∙ column_then f start count (λ r. r.task) _ _ i p.task_copied p.within;
      tick_column = l.tick_column ∙ column_then f start count (λ r. r.tick) _ _ i p.tick_copied p.within;
      cost_column = l.cost_column ∙ column_then f start count (λ r. r.cost) _ _ i p.cost_copied p.within;
    }

    pub putting_all : count ≤ i → Listed (releases_at f start count) task₀ tick₀ cost₀ task tick cost
    putting_all h =
        record {
          task_column = column_all f start count _ _ _ i p.task_copied h p.within;
          tick_column = column_all f start count _ _ _ i p.tick_copied h p.within;
          cost_column = column_all f start count _ _ _ i p.cost_copied h p.within;
        }

-- the answer of a read: the file's own refusal, then 13, else what the file holds
module _ (f task tick cost : List ℕ) where
  call_refused : (q : Refusal) → refused q ≡ decode f → refused q ≡ read_call f task tick cost
  unfolding read_call
  call_refused q e = rw (read_call, ← e)

  call_short
      : (x : File) (q : Refusal) → answered x ≡ decode f
      → some q ≡ check_slots (lends (length x.releases) task ∷ lends (length x.releases) tick ∷ lends (length x.releases) cost ∷ [])
      → refused q ≡ read_call f task tick cost
  unfolding read_call
  call_short x q e h = rw (read_call, ← e, ← h)

  call_fine
      : (x : File) → answered x ≡ decode f
      → none ≡ check_slots (lends (length x.releases) task ∷ lends (length x.releases) tick ∷ lends (length x.releases) cost ∷ [])
      → answered x ≡ read_call f task tick cost
  unfolding read_call
  call_fine x e h = rw (read_call, ← e, ← h)

  -- a refusal changes no slot
  says_refused
      : (e : Refused) → refused (record { number = number_of e.reason; place = e.place }) ≡ read_call f task tick cost
      → ReadSays f task tick cost (Err e) task tick cost
  unfolding read_count read_column column_after
  says_refused e h =
      record {
        outcome = ap read_count h;
        sheet = record {};
        task_column = ap (λ a. read_column (λ y. y.task) a task) h;
        tick_column = ap (λ a. read_column (λ y. y.tick) a tick) h;
        cost_column = ap (λ a. read_column (λ y. y.cost) a cost) h;
      }

  -- the file is refused
  pub reads_halted : (e : Refused) → ScanSays f (Err e) → ReadSays f task tick cost (Err e) task tick cost
  reads_halted e h = says_refused e (call_refused _ h.answer)

  -- the columns by the number of slots that are needed
  abbrev pub slots : ℕ → List Lent
  slots k = lends k task ∷ lends k tick ∷ lends k cost ∷ []

  module _ (s : Scanned) (h : ScanSays f (Ok s)) where
    length_in_lem : s.releases ≡ length (file_in f s).releases
    length_in_lem = sym (length_releases f (start_in s.tasks) s.releases)

    -- the columns are refused
    pub reads_short : (e : Refused) → refuse (number_of e.reason) e.place ≡ check_slots (slots s.releases) → ReadSays f task tick cost (Err e) task tick cost
    reads_short e g = says_refused e (call_short (file_in f s) _ h.answer (g ∙ ap (λ k. check_slots (slots k)) length_in_lem))

    -- neither
    pub reads_fine
        : (task' tick' cost' : List ℕ) → none ≡ check_slots (slots s.releases) → Listed (file_in f s).releases task tick cost task' tick' cost'
        → ReadSays f task tick cost (Ok (record { tasks = s.tasks; releases = s.releases })) task' tick' cost'
    unfolding read_count read_column
    reads_fine task' tick' cost' g c =
        let a : answered (file_in f s) ≡ read_call f task tick cost = call_fine (file_in f s) h.answer (g ∙ ap (λ k. check_slots (slots k)) length_in_lem) in
        record {
          outcome = ap answered length_in_lem ∙ ap read_count a;
          sheet = h.found.sheet ∙ ap read_sheet (sym h.answer) ∙ ap read_sheet a;
          task_column = c.task_column ∙ ap (λ b. read_column (λ y. y.task) b task) a;
          tick_column = c.tick_column ∙ ap (λ b. read_column (λ y. y.tick) b tick) a;
          cost_column = c.cost_column ∙ ap (λ b. read_column (λ y. y.cost) b cost) a;
        }
