-- `jumps::halts` meets its contract: the first test that says yes decides. Assumes nothing.
use mathlib.Core.Path.{◌≡◌, ◌∙◌, ap}
use Rattle.stops.specs.Stops.{stops_in, stops_at}
use Rattle.jumps.specs.Jumps.{halts_at}
use Rattle.stops.proofs.Targets.{stops_in_lem}
use Rattle.jumps.proofs.halts.Goals as goal

pub returns-then-stops_in : goal.returns-then-stops_in
unfolding halts_at
returns-then-stops_in c =
    rw (
      ← (let same' : c.stops_in.result ≡ stops_at c.args.scene.now.forced.now c.args.scene.now.goals.now c.args.scene.now.plan.now c.args.d c.args.c.x c.args.c.y = let f = c.requires in
          c.stops_in.ensures ∙ ap (stops_in _ _ _ _) f.1.1 ∙ stops_in_lem _ _ _ _ f.1.0 in same'),
      c.if-stops_in.true,
    )

pub returns-else-stops_in : goal.returns-else-stops_in
unfolding halts_at
returns-else-stops_in c =
    rw (
      ← (let same' : c.stops_in.result ≡ stops_at c.args.scene.now.forced.now c.args.scene.now.goals.now c.args.scene.now.plan.now c.args.d c.args.c.x c.args.c.y = let f = c.requires in
          c.stops_in.ensures ∙ ap (stops_in _ _ _ _) f.1.1 ∙ stops_in_lem _ _ _ _ f.1.0 in same'),
      c.if-stops_in.false,
    ) c.sees_aside.ensures
