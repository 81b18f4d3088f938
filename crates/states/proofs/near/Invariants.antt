-- `states::near` meets its contract. Assumes nothing.
use Prim.Native.Nat.{◌≤◌}
use mathlib.Core.Path.{◌≡◌}
use mathlib.Core.Bool.{true}
use Rattle.states.specs.Blocks.{Each, Near}
use Rattle.states.proofs.near.Given as goal

abbrev pub invariant-loop-j : goal.invariant-loop-j
invariant-loop-j l = (l.j ≤ 64) × (l.ok ≡ true → Each l.from l.j (Near l.parent l.root l.tied))
