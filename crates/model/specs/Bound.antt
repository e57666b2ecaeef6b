-- The response bound, over ℤ.
use Rattle.std.specs.Prelude.{ℕ, ◌+◌, ◌*◌, cond, ℤ, pos, ◌+ℤ◌, ◌-ℤ◌}
use Rattle.std.specs.Int.Signed.{lt_z}
use Rattle.model.specs.Processor.{pickup}

unfoldable pub max_z : ℤ → ℤ → ℤ
max_z a b = cond (lt_z a b) b a

unfoldable pub min_z : ℤ → ℤ → ℤ
min_z a b = cond (lt_z a b) a b

-- "x = J − qP, which may be negative"
unfoldable pub offset : ℕ → ℕ → ℕ → ℤ
offset P J q = pos J -ℤ pos (q * P)

-- "R(q) = W(q) + max(x − K, min(0, x))", w being W(q), and it grows by the pickup (document 02, R-2)
unfoldable pub bound : ℕ → ℕ → ℕ → ℕ → ℕ → ℤ
bound P J K q w = pos (w + pickup) +ℤ max_z (offset P J q -ℤ pos K) (min_z (pos 0) (offset P J q))
