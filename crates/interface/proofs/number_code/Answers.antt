-- The code is the definition as it stands.
use Prim.Native.Nat.{ℕ, ◌+◌, ◌*◌, ◌%◌}
use mathlib.Core.Path.{ap}
use Rattle.interface.specs.Interface.{refusal_code}
use Rattle.interface.proofs.number_code.Goals as goal

pub returns : goal.returns
unfolding refusal_code
returns c = ap (λ (n : ℕ). n * 4294967296 + c.args.place % 4294967296) c.from.ensures
