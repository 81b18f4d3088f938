-- `components::find` meets its contract. Assumes nothing.
use mathlib.Core.Path.{◌≡◌}
use Prim.Native.Nat.{◌-◌, ◌<◌}
use lib.ListN.{get_or}
use Rattle.components.specs.Components.{root_of}
use Rattle.components.proofs.find.Given as goal

abbrev pub invariant-loop-up : goal.invariant-loop-up
invariant-loop-up l = (l.x < l.n) × (l.up ≡ get_or l.parent l.x 0) × (root_of l.parent l.x ≡ root_of l.parent l.start)

abbrev pub decreases-loop-up : goal.decreases-loop-up
decreases-loop-up l = 255 - get_or l.rank l.x 0
