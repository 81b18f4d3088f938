-- `components::find_mut` meets its contract. Assumes nothing.
use mathlib.Core.Path.{◌≡◌}
use Prim.Native.Nat.{◌-◌, ◌<◌}
use lib.ListN.{length, get_or}
use Rattle.components.specs.Components.{Forest, root_of, halve}
use Rattle.components.proofs.find_mut.Given as goal

abbrev pub invariant-loop-up : goal.invariant-loop-up
invariant-loop-up l = (l.x < l.n) × (l.up ≡ get_or l.parent l.x 0) × Forest 255 l.n l.parent l.rank × (root_of l.parent l.x ≡ root_of l.initial.parent l.start) × (halve l.parent l.x ≡ halve l.initial.parent l.start) × (length l.parent ≡ length l.initial.parent)

abbrev pub decreases-loop-up : goal.decreases-loop-up
decreases-loop-up l = 255 - get_or l.rank l.x 0
