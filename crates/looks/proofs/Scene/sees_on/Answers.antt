-- `looks::Scene::sees_on` meets its contract. The invariant: the number is that of a cell from which the answer is to be found (`Numbered`). Assumes nothing.
use mathlib.Core.Path.{ap, sym, ◌∙◌}
use native.Mathlib.Omega.{arith}
use Rattle.stops.specs.Stops.{stops_in}
use Rattle.looks.specs.Looks.{is_at, sees_on}
use Rattle.looks.proofs.Going.{moves, start, nothing, here}
use Rattle.stops.proofs.Targets.{stops_in_lem}
use Rattle.looks.proofs.Steps.{next_in, next_out, next_here, next_fits, next_low, next_blocked, next_free, next_on}
use Rattle.looks.proofs.Scene.sees_on.Goals as goal

pub loop-init : goal.loop-init
loop-init c =
    let f = c.args.self.now.floor in
    record {
      x = c.args.c.x;
      y = c.args.c.y;
      cost = 1;
      numbered = record {
        going = start _ _ _ _ _ _ _ _ _ _ _ c.requires f.sized.wide f.sized.high (omega arith) (rw (c.off_x-ox.ensures.0, c.off_y-oy.ensures.0));
        here = c.number-i.ensures;
        ahead = omega (arith, c.reach-end.ensures);
      };
    }

pub overflow_sub-i : goal.overflow_sub-i
overflow_sub-i c = next_fits _ _ _ _ _ _ _ _ _ _ _ _ _ (moves _ _ _ c.off_x-ox.ensures.0 c.off_y-oy.ensures.0) c.loop.invariant.numbered (omega (arith, c.loop-test.true))

pub bounds-blocked-i : goal.bounds-blocked-i
bounds-blocked-i c = omega (arith, next_low _ _ _ _ _ _ _ _ _ _ _ _ _ (moves _ _ _ c.off_x-ox.ensures.0 c.off_y-oy.ensures.0) c.loop.invariant.numbered (omega (arith, c.loop-test.true)), c.args.self.now.floor.sized.size)

pub returns-then-blocked-i-ne0 : goal.returns-then-blocked-i-ne0
unfolding sees_on
returns-then-blocked-i-ne0 c = ap is_at (nothing _ _ _ _ _ _ _ _ _ _ _ (moves _ _ _ c.off_x-ox.ensures.0 c.off_y-oy.ensures.0) c.loop.invariant.numbered.going (next_blocked _ _ _ _ _ _ _ _ _ _ _ _ _ (moves _ _ _ c.off_x-ox.ensures.0 c.off_y-oy.ensures.0) c.loop.invariant.numbered (omega (arith, c.loop-test.true)) c.if-blocked-i-ne0.true))

pub stops_in-requires : goal.stops_in-requires
stops_in-requires c =
    let f = c.args.self.now.floor in
    (f.sized_forced, (f.aimed, (f.marked, next_low _ _ _ _ _ _ _ _ _ _ _ _ _ (moves _ _ _ c.off_x-ox.ensures.0 c.off_y-oy.ensures.0) c.loop.invariant.numbered (omega (arith, c.loop-test.true)))))

pub returns-then-stops_in : goal.returns-then-stops_in
unfolding sees_on
returns-then-stops_in c = ap is_at (here _ _ _ _ _ _ _ _ _ _ _ (moves _ _ _ c.off_x-ox.ensures.0 c.off_y-oy.ensures.0) c.loop.invariant.numbered.going (next_free _ _ _ _ _ _ _ _ _ _ _ _ _ (moves _ _ _ c.off_x-ox.ensures.0 c.off_y-oy.ensures.0) c.loop.invariant.numbered (omega (arith, c.loop-test.true)) c.if-blocked-i-ne0.false) (sym (stops_in_lem _ _ _ _ (next_in _ _ _ _ _ _ _ _ _ _ _ _ _ (moves _ _ _ c.off_x-ox.ensures.0 c.off_y-oy.ensures.0) c.loop.invariant.numbered (omega (arith, c.loop-test.true)))) ∙ ap (stops_in _ _ _ _) (sym (next_here _ _ _ _ _ _ _ _ _ _ _ _ _ (moves _ _ _ c.off_x-ox.ensures.0 c.off_y-oy.ensures.0) c.loop.invariant.numbered (omega (arith, c.loop-test.true)))) ∙ sym c.stops_in.ensures ∙ c.if-stops_in.true))

pub loop-preserved : goal.loop-preserved
loop-preserved c = record { x = _; y = _; cost = _; numbered = next_on _ _ _ _ _ _ _ _ _ _ _ _ _ (moves _ _ _ c.off_x-ox.ensures.0 c.off_y-oy.ensures.0) c.loop.invariant.numbered (omega (arith, c.loop-test.true)) (omega arith) (next_free _ _ _ _ _ _ _ _ _ _ _ _ _ (moves _ _ _ c.off_x-ox.ensures.0 c.off_y-oy.ensures.0) c.loop.invariant.numbered (omega (arith, c.loop-test.true)) c.if-blocked-i-ne0.false) (sym (stops_in_lem _ _ _ _ (next_in _ _ _ _ _ _ _ _ _ _ _ _ _ (moves _ _ _ c.off_x-ox.ensures.0 c.off_y-oy.ensures.0) c.loop.invariant.numbered (omega (arith, c.loop-test.true)))) ∙ ap (stops_in _ _ _ _) (sym (next_here _ _ _ _ _ _ _ _ _ _ _ _ _ (moves _ _ _ c.off_x-ox.ensures.0 c.off_y-oy.ensures.0) c.loop.invariant.numbered (omega (arith, c.loop-test.true)))) ∙ sym c.stops_in.ensures ∙ c.if-stops_in.false) _ (omega (arith, c.loop-test.true)) }

pub returns : goal.returns
unfolding sees_on
returns c = ap is_at (nothing _ _ _ _ _ _ _ _ _ _ _ (moves _ _ _ c.off_x-ox.ensures.0 c.off_y-oy.ensures.0) c.loop.invariant.numbered.going (next_out _ _ _ _ _ _ _ _ _ _ _ _ _ (moves _ _ _ c.off_x-ox.ensures.0 c.off_y-oy.ensures.0) c.loop.invariant.numbered (omega (arith, c.loop-test.false))))
