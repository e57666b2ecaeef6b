use mathlib.Core.Path.{◌≡◌, sym, ap, ◌∙◌}
use native.Mathlib.Omega.{arith}
use Rattle.fileformat.specs.FileCalls.{charge_bytes}
use Rattle.fileformat.proofs.RoundTrips.{no_charge_bytes, some_charge_bytes}
use Rattle.entries.proofs.charge_size.Goals as goal

pub returns-then-charge-gt0 : goal.returns-then-charge-gt0
returns-then-charge-gt0 c = sym (some_charge_bytes _ (omega arith))

pub returns-else-charge-gt0 : goal.returns-else-charge-gt0
returns-else-charge-gt0 c = let z : c.args.charge ≡ 0 = omega arith in sym (ap charge_bytes z ∙ no_charge_bytes)
