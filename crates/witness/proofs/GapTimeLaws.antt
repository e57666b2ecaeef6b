-- Releases at gap times: legal, and ready where the window asks for them.
use Prim.Native.Nat.{ℕ, ◌+◌, ◌-◌, ◌≤◌, ◌<◌}
use mathlib.Core.Path.{◌≡◌}
use native.Mathlib.Omega.{arith}
use lib.ListN.{length, get_or}
use Rattle.model.specs.Series.{table}
use Rattle.model.specs.Gap.{gap, Apart}
use Rattle.model.specs.Ready.{ready_ticks}
use Rattle.shaper.proofs.GapLaws.{gap_mono, gap_super, gap_super_keep, gap_keep}
use Rattle.shaper.proofs.ReadyLaws.{ready_since, ready_closed, Attained}
use Rattle.model.proofs.TableLaws.{length_table, get_or_table}
use Rattle.witness.specs.GapTimes.{gap_time}

module _ (P S base : ℕ) where
  pub gap_time_rises : (x y : ℕ) → x ≤ y → gap_time P S base x ≤ gap_time P S base y
  gap_time_rises x y h = omega (arith, gap_mono P S x y h)

  module _ (n : ℕ) where
    -- they are legal for every jitter that is not below S
    pub gap_times_apart : (J : ℕ) → S ≤ J → Apart P J (table (gap_time P S base) n)
    gap_times_apart J h m k g =
        let l : m + k < n = omega (arith, length_table (gap_time P S base) n) in
        rw (get_or_table (gap_time P S base) 0 n m (omega arith), get_or_table (gap_time P S base) 0 n (m + k) l) (omega (arith, gap_super P S m k, gap_keep P S J k h))

    -- with a kept jitter K up to S they are ready d_K(x) after the base
    pub gap_times_ready : (K x : ℕ) → K ≤ S → x < n → get_or (ready_ticks P K (table (gap_time P S base) n)) x 0 ≡ base + gap P K x
    gap_times_ready K x h l = go (ready_closed P K (table (gap_time P S base) n) x inside)
      where
        inside : x < length (table (gap_time P S base) n)
        inside = omega (arith, length_table (gap_time P S base) n)

        low : base + gap P K x ≤ get_or (ready_ticks P K (table (gap_time P S base) n)) x 0
        low =
            omega (
              arith,
              ready_since P K (table (gap_time P S base) n) 0 x (omega arith) inside,
              get_or_table (gap_time P S base) 0 n 0 (omega arith),
              gap_mono P K x (x - 0) (omega arith),
            )

        go : Attained P K (table (gap_time P S base) n) x → get_or (ready_ticks P K (table (gap_time P S base) n)) x 0 ≡ base + gap P K x
        go (m, g, e) =
            omega (
              arith,
              low,
              get_or_table (gap_time P S base) 0 n m (omega arith),
              gap_super_keep P K S (x - m) m h,
              gap_mono P K (x - m + m) x (omega arith),
            )
