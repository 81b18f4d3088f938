-- `expansion::expand` and `expansion::follow` meet their contracts. The measure: twice the remaining depth, and one more for a cell.
-- The loop's invariant: what is left to follow gives the answer (`Rounds`), and the mask has the direction that is next. Assumes nothing.
use mathlib.Core.Path.{◌≡◌}
use mathlib.Core.Bool.{true}
use Prim.Native.Nat.{◌+◌, ◌-◌, ◌*◌, ◌%◌, ◌<◌}
use Rattle.masks.specs.Masks.{has_bit}
use Rattle.offers.proofs.Rounds.{Rounds}
use Rattle.expansion.specs.Expand.{tables, follow_at}
use Rattle.expansion.proofs.+expand_follow.Given as goal

abbrev pub invariant-expand-loop-e : goal.invariant-expand-loop-e
invariant-expand-loop-e l = Rounds l.goals l.p (follow_at (tables l.blocked l.neighbours l.forced l.goals) l.p l.from l.depth l.above l.node l.mask l.price l.base) l.initial.work l.work l.e
    × (l.e < 8 → has_bit l.mask (l.e % 8) ≡ true)

abbrev pub decreases-expand-loop-e : goal.decreases-expand-loop-e
decreases-expand-loop-e l = 8 - l.e

abbrev pub decreases-expand : goal.decreases-expand
decreases-expand l = 2 * l.depth + 1

abbrev pub decreases-follow : goal.decreases-follow
decreases-follow l = 2 * l.depth
