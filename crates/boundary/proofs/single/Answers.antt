-- `boundary::single` meets its contract: STATE, then the search. Assumes nothing.
use mathlib.Core.Path.{sym}
use Prim.Native.Nat.{◌*◌}
use Rattle.finder.specs.Find.{lent_ground, lengths_of, single_plan}
use Rattle.finder.proofs.Laws.{stopped}
use Rattle.boundary.proofs.Searches as R
use Rattle.boundary.proofs.Lent as L
use Rattle.boundary.proofs.single.Goals as goal

pub returns-then-not-held : goal.returns-then-not-held
returns-then-not-held c = stopped _ _ _ _ (single_plan c.args.w c.args.h c.args.s c.args.approximate c.args.start c.args.goal) _ c.refused.ensures (R.single_state (lent_ground c.args.w c.args.h c.args.blocked.now c.args.neighbours.now c.args.forced.now) c.args.links.now c.args.ranks.now c.args.s (lengths_of c.args.number.now c.args.place.now c.args.parent.now c.args.cost.now c.args.keys.now c.args.idx.now) c.args.approximate c.args.start c.args.goal (sym c.if-not-held.ensures))

pub single_goal-requires : goal.single_goal-requires
single_goal-requires c = let z = L.of_held c.args.w c.args.h c.args.blocked.now c.args.neighbours.now c.args.forced.now c.args.links.now c.args.ranks.now (sym c.if-not-held.ensures) in (z.linked.sides, (R.covered (c.args.w * c.args.h) c.args.blocked.now c.args.neighbours.now c.args.forced.now z.covers, z.linked.forest))
