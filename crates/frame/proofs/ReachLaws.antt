-- Laws of our ticks and of the ticks that some of ours take, as they are worked out over columns.
use Prim.Native.Nat.{ℕ, suc, ◌+◌, ◌-◌, ◌*◌, ◌%◌, ◌/◌, ◌≤◌, ◌<◌}
use mathlib.Core.Path.{◌≡◌, refl, sym, ap, ◌∙◌}
use mathlib.Core.Bool.{Bool, true, false, not}
use mathlib.Core.Option.{some}
use mathlib.Core.List.{List}
use native.Mathlib.Omega.{arith}
use native.Mathlib.Nat.{mod-lt, mod-add-div', div-le_self, mul-le-mul, mul-le-mul_left}
use borrow.Author.Tests.{not-false}
use Rattle.model.specs.Limits.{max_tick, max_frame}
use Rattle.model.specs.Series.{sum}
use Rattle.model.specs.Choice.{column}
use Rattle.model.specs.Frame.{Frame, InRules, ours_in, turn_of, supply}
use Rattle.model.proofs.SeriesLaws.{sum_eq, sum_nil, sum_append}
use Rattle.model.proofs.SupplyLaws.{supply_all, supply_high}
use Rattle.model.proofs.FrameLaws.{supply_place}
use Rattle.frame.specs.FrameView.{given}
use Rattle.frame.specs.Reached.{Reached, IsReach}
use Rattle.frame.specs.WindowColumns.{column_windows, column_frame, per_frame, FrameColumns, Supplies, IsWithin, Located, Begins}
use Rattle.frame.proofs.WindowLaws.{part, parts, ends_before, supply_parts, supply_frames, supply_split, per_low, per_high, part_all, part_some, part_none}
use Rattle.frame.proofs.ReachedLaws.{reached_none, reached_all, reached_from, reached_same, reach_high}
use Rattle.frame.proofs.ColumnLaws.{ruled_columns, ours_absent}

module _ (f : Frame) (v : InRules f) where
  -- the ticks of windows up to a tick of window k
  parts_at : (k l : ℕ) → k < f.count → l ≤ f.size k → parts f (f.first k + l) ≡ sum f.size k + l
  unfolding sum
  parts_at k l b h =
      let e : f.count ≡ suc k + (f.count - suc k) = omega arith in
      let a : parts f (f.first k + l) ≡ sum (part f (f.first k + l)) (suc k) + sum (λ m. part f (f.first k + l) (suc k + m)) (f.count - suc k) =
      ap (sum (part f (f.first k + l))) e ∙ sum_append (part f (f.first k + l)) (suc k) (f.count - suc k) in
      let c : sum (part f (f.first k + l)) k ≡ sum f.size k =
      sum_eq (part f (f.first k + l)) f.size k (λ m g. part_all f m (f.first k + l) (omega (arith, ends_before f v m k g b))) in
      let d : sum (λ m. part f (f.first k + l) (suc k + m)) (f.count - suc k) ≡ 0 =
      sum_nil (λ m. part f (f.first k + l) (suc k + m)) (f.count - suc k)
      (λ m g. part_none f (suc k + m) (f.first k + l) (omega (arith, ends_before f v k (suc k + m) (omega arith) (omega arith)))) in
      omega (arith, a, c, d, part_some f k l h)

-- the frame is there
module _ (ticks per count : ℕ) (first size : List ℕ) (v : InRules (column_windows ticks count first size)) (p : per ≡ sum (column size) count) where
  -- our ticks up to tick r of the windows, and up to the one before
  located_at : (r x : ℕ) → Located first size count r x → (parts (column_windows ticks count first size) x ≡ r) × (x ≤ ticks) × (1 ≤ x)
  located_at r x c = (
    ap (parts (column_windows ticks count first size)) c.place
        ∙ parts_at (column_windows ticks count first size) v c.which c.left c.known c.high
        ∙ sym c.counted,
    omega (arith, c.place, v.inside c.which c.known, c.high),
    omega (arith, c.place, c.low),
  )

  located_before : (r x : ℕ) → Located first size count r x → suc (parts (column_windows ticks count first size) (x - 1)) ≡ r
  located_before r x c =
      let e : x - 1 ≡ column first c.which + (c.left - 1) = omega (arith, c.place, c.low) in
      rw e
      (omega (
        arith,
        parts_at (column_windows ticks count first size) v c.which (c.left - 1) c.known (omega (arith, c.high)),
        c.counted,
        c.low,
      ))

  -- the ticks that d of ours take from a place on, as the code reckons them
  reach_is
      : (at d a x : ℕ) → at < ticks → 1 ≤ d → a ≡ parts (column_windows ticks count first size) at
      → Located first size count ((a + d - 1) % per + 1) x
      → (at < (a + d - 1) / per * ticks + x) × Reached (ours_in (some (column_windows ticks count first size))) at d ((a + d - 1) / per * ticks + x - at)
  reach_is at d a x g h w c =
      let m : (a + d - 1) % per + (a + d - 1) / per * per ≡ a + d - 1 = mod-add-div' (a + d - 1) per in
      let q : (a + d - 1) / per * per ≡ (a + d - 1) / per * per_frame (column_windows ticks count first size) = ap (◌*◌ ((a + d - 1) / per)) p in
      let l : (parts (column_windows ticks count first size) x ≡ (a + d - 1) % per + 1) × (x ≤ ticks) × (1 ≤ x) = located_at _ x c in
      let y : supply (ours_in (some (column_windows ticks count first size))) 0 at ≡ a =
      supply_parts (column_windows ticks count first size) v at (omega arith) ∙ sym w in
      let i : (a + d - 1) / per * ticks + x - 1 ≡ (a + d - 1) / per * ticks + (x - 1) = omega (arith, l.2) in
      let u : supply (ours_in (some (column_windows ticks count first size))) 0 ((a + d - 1) / per * ticks + x) ≡ a + d =
      omega (
        arith,
        q,
        m,
        supply_frames (column_windows ticks count first size) v 0 ((a + d - 1) / per) x,
        supply_parts (column_windows ticks count first size) v x l.1,
        l.0,
      ) in
      let b : suc (supply (ours_in (some (column_windows ticks count first size))) 0 ((a + d - 1) / per * ticks + x - 1)) ≡ a + d =
      rw i
      (omega (
        arith,
        q,
        m,
        supply_frames (column_windows ticks count first size) v 0 ((a + d - 1) / per) (x - 1),
        supply_parts (column_windows ticks count first size) v (x - 1) (omega (arith, l.1)),
        located_before _ x c,
      )) in
      reached_from (ours_in (some (column_windows ticks count first size))) at a d ((a + d - 1) / per * ticks + x) y h (omega (arith, l.2)) u b

-- bounds of the numbers of a frame that is there
pub record Sizes (ticks per : ℕ) : Type 0 where
  pub ticks_low : 1 ≤ ticks
  pub ticks_high : ticks ≤ 10000
  pub per_low : 1 ≤ per
  pub per_high : per ≤ 10000

module _ (framed : Bool) (ticks count : ℕ) (first size : List ℕ) (c : FrameColumns framed ticks count first size) where
  turn_high : turn_of (column_frame framed ticks count first size) ≤ max_frame
  turn_high = go framed refl
    where
      go : (b : Bool) → framed ≡ b → turn_of (given b (column_windows ticks count first size)) ≤ max_frame
      go true e = (c.rules e).ticks_high
      go false e = omega arith

  -- the least number is small
  reach_small : (u d t : ℕ) → Reached (ours_in (column_frame framed ticks count first size)) u d t → IsReach (ours_in (column_frame framed ticks count first size)) u d t
  reach_small u d t r =
      record {
        reached = r;
        high = omega (
          arith,
          reach_high (column_frame framed ticks count first size) (ruled_columns framed ticks count first size c) u d t r,
          mul-le-mul_left d turn_high,
        );
      }

  -- without a frame
  pub ours_absent_ticks : not framed ≡ true → (t : ℕ) → t ≡ supply (ours_in (column_frame framed ticks count first size)) 0 t
  ours_absent_ticks h t = sym (supply_all _ (ours_absent framed ticks count first size h) 0 t)

  pub reach_absent : not framed ≡ true → (u d : ℕ) → IsReach (ours_in (column_frame framed ticks count first size)) u d d
  reach_absent h u d = reach_small u d d (reached_all _ (ours_absent framed ticks count first size h) u d)

  -- none of ours
  pub reach_nothing : (u d : ℕ) → d ≡ 0 → IsReach (ours_in (column_frame framed ticks count first size)) u d 0
  reach_nothing u d e = rw e (reach_small u 0 0 (reached_none _ u))

  -- a place in the frame that is there
  pub place_in : not framed ≡ false → (t L : ℕ) → L ≡ ticks → t % L < ticks
  place_in h t L e = rw e (mod-lt t {m = ticks} (c.rules (not-false framed h)).ticks_low)

  pub begins_place
      : not framed ≡ false → (t L b : ℕ) → L ≡ ticks → IsWithin first size count (t % L) b → Begins framed ticks count first size (t % L) b
  begins_place h t L b e w = record { in_frame = λ x. place_in h t L e; within = w }

  -- from a tick as from its place in the frame
  pub reach_place
      : not framed ≡ false → (t d L r : ℕ) → L ≡ ticks → IsReach (ours_in (column_frame framed ticks count first size)) (t % L) d r
      → IsReach (ours_in (column_frame framed ticks count first size)) t d r
  reach_place h t d L r e i =
      record {
        reached = reached_same _ (t % L) t d r (λ n. same n) i.reached;
        high = i.high;
      }
    where
      same : (n : ℕ) → supply (ours_in (column_frame framed ticks count first size)) (t % L) n ≡ supply (ours_in (column_frame framed ticks count first size)) t n
      same n = rw (not-false framed h, e) (supply_place (some (column_windows ticks count first size)) t n)

module _ (framed : Bool) (ticks per count : ℕ) (first size : List ℕ) (s : Supplies framed ticks per count first size) (h : not framed ≡ false) where
  rules_there : InRules (column_windows ticks count first size)
  rules_there = s.columns.rules (not-false framed h)

  pub sizes : Sizes ticks per
  sizes =
      let v = rules_there in
      record {
        ticks_low = v.ticks_low;
        ticks_high = v.ticks_high;
        per_low = omega (arith, s.per_is, per_low (column_windows ticks count first size) v);
        per_high = omega (arith, s.per_is, per_high (column_windows ticks count first size) v, v.ticks_high);
      }

  -- our ticks among the first t, as the code reckons them
  pub our_ticks_is
      : (t L P r R : ℕ) → L ≡ ticks → IsWithin first size count (t % L) r → P ≡ per → R ≡ r
      → t / L * P + R ≡ supply (ours_in (column_frame framed ticks count first size)) 0 t
  our_ticks_is t L P r R e w f g =
      rw (not-false framed h) (rw (e, f, g, s.per_is) (ap (◌+◌ (t / ticks * per_frame (column_windows ticks count first size))) (rw e at w.is)
      ∙ sym (supply_split (column_windows ticks count first size) rules_there t)))

  pub our_ticks_high : (t L P r R : ℕ) → L ≡ ticks → IsWithin first size count (t % L) r → P ≡ per → R ≡ r → t / L * P + R ≤ t
  our_ticks_high t L P r R e w f g =
      omega (arith, our_ticks_is t L P r R e w f g, supply_high (ours_in (column_frame framed ticks count first size)) 0 t)

  -- a rest of the division by our ticks of a frame
  pub rest_high : (e P : ℕ) → P ≡ per → (e % P + 1 ≤ sum (column size) count) × (e % P + 1 ≤ 10000)
  rest_high e P f =
      let z : e % P < P = mod-lt e {m = P} (omega (arith, sizes.per_low)) in
      (omega (arith, z, s.per_is), omega (arith, z, sizes.per_high))

  -- whole frames are few enough for 64 bits
  pub frames_high : (e P L : ℕ) → e ≤ max_tick + 160000 → L ≡ ticks → e / P * L ≤ (max_tick + 160000) * 10000
  frames_high e P L g f =
      mul-le-mul {n₂ = max_tick + 160000} {m₂ = 10000} (omega (arith, div-le_self e P)) (omega (arith, f, sizes.ticks_high))

  -- the ticks that d of ours take from a place on, as the code reckons them
  pub reach_code
      : (at before d A P L x X T : ℕ) → Begins framed ticks count first size at before → 1 ≤ d → A ≡ before → P ≡ per → L ≡ ticks → X ≡ x → T ≡ at
      → Located first size count ((A + d - 1) % P + 1) x
      → (T ≤ (A + d - 1) / P * L + X) × IsReach (ours_in (column_frame framed ticks count first size)) at d ((A + d - 1) / P * L + X - T)
  reach_code at before d A P L x X T b g e f i j k l =
      let r : (at < (before + d - 1) / per * ticks + x) × Reached (ours_in (some (column_windows ticks count first size))) at d ((before + d - 1) / per * ticks + x - at) =
      reach_is ticks per count first size rules_there s.per_is at d before x (b.in_frame (not-false framed h)) g b.within.is (rw (e, f) at l) in
      rw (e, f, i, j, k) (omega (arith, r.0), reach_small framed ticks count first size s.columns at d _ (rw (not-false framed h) r.1))
