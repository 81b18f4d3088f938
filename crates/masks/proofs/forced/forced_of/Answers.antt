-- `masks::forced::forced_of` meets its contract: its rule is one test that antt computes at each mask. Assumes nothing.
use mathlib.Core.Bool.{Bool}
use Prim.Native.Nat.{ℕ, ◌-◌, ◌*◌, ◌/◌, ◌%◌}
use native.Mathlib.Omega.{arith}
use lib.Bits.{bit_and, bit_or}
use lib.Dec.{eqb, eqb→eq}
use lib.ListN.{replicate}
use Rattle.masks.specs.Masks.{forced_of}
use Rattle.masks.proofs.Every.{at}
use Rattle.masks.proofs.forced.forced_of.Goals as goal

abbrev clearAt : ℕ → ℕ
clearAt m = (255 - m) * 257

abbrev turnedAt : ℕ → ℕ
turnedAt m = bit_or (bit_and (bit_or (clearAt m / 8) (clearAt m / 32)) 170) (bit_and (bit_or (clearAt m / 4) (clearAt m / 64)) 85) % 256

same : ℕ → ℕ → Bool
same m x = eqb (turnedAt m) (forced_of m)

pub returns : goal.returns
unfolding same forced_of
returns c = eqb→eq (turnedAt c.args.m) (forced_of c.args.m) (at same (replicate {A = ℕ} 256 0) tt c.args.m (omega arith))
