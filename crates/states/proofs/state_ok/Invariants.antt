-- `states::state_ok` meets its contract. Assumes nothing.
use Prim.Native.Nat.{◌*◌, ◌<◌, ◌-◌, ◌^◌, ◌≤◌}
use mathlib.Core.Path.{◌≡◌}
use mathlib.Core.Bool.{true}
use Rattle.states.specs.States.{all_to, cell_ok}
use Rattle.states.proofs.state_ok.Given as goal

abbrev pub invariant-loop-b : goal.invariant-loop-b
invariant-loop-b l = (l.root ≤ l.n - 1) × (l.root < 2 ^ 16) × (all_to (cell_ok l.n l.parent l.rank) (64 * l.b) ≡ true)
