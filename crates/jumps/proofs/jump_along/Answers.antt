-- `jumps::jump_along` meets its contract. The invariant: what is to be found from here is the answer, and the number is that of the cell (`Numbered`). Assumes nothing.
use mathlib.Core.Path.{sym, ◌∙◌}
use native.Mathlib.Omega.{arith}
use Rattle.jumps.specs.Jumps.{jump_of}
use Rattle.looks.proofs.Going.{moves, start, nothing, here}
use Rattle.looks.proofs.Steps.{next_in, next_out, next_here, next_fits, next_low, next_blocked, next_free, next_on}
use Rattle.jumps.proofs.jump_along.Goals as goal

pub loop-init : goal.loop-init
loop-init c =
    let f = c.args.scene.now.floor in
    record {
      going = start _ _ _ _ _ _ _ _ _ _ _ c.requires.1.0 f.sized.wide f.sized.high c.requires.1.1 (rw (c.off_x-ox.ensures.0, c.off_y-oy.ensures.0, c.price_of-step.ensures));
      here = c.number-i.ensures;
      ahead = omega (arith, c.reach-end.ensures);
    }

pub overflow_sub-i : goal.overflow_sub-i
overflow_sub-i c = next_fits _ _ _ _ _ _ _ _ _ _ _ _ _ (moves _ _ _ c.off_x-ox.ensures.0 c.off_y-oy.ensures.0) c.loop.invariant (omega (arith, c.loop-test.true))

pub bounds-scene-i : goal.bounds-scene-i
bounds-scene-i c = omega (arith, next_low _ _ _ _ _ _ _ _ _ _ _ _ _ (moves _ _ _ c.off_x-ox.ensures.0 c.off_y-oy.ensures.0) c.loop.invariant (omega (arith, c.loop-test.true)), c.args.scene.now.floor.sized.size)

pub returns-then-scene-i-ne0 : goal.returns-then-scene-i-ne0
unfolding jump_of
returns-then-scene-i-ne0 c = nothing _ _ _ _ _ _ _ _ _ _ _ (moves _ _ _ c.off_x-ox.ensures.0 c.off_y-oy.ensures.0) c.loop.invariant.going (next_blocked _ _ _ _ _ _ _ _ _ _ _ _ _ (moves _ _ _ c.off_x-ox.ensures.0 c.off_y-oy.ensures.0) c.loop.invariant (omega (arith, c.loop-test.true)) c.if-scene-i-ne0.true)

pub halts-requires : goal.halts-requires
halts-requires c =
    let f = c.requires in
    (f.0, (next_in _ _ _ _ _ _ _ _ _ _ _ _ _ (moves _ _ _ c.off_x-ox.ensures.0 c.off_y-oy.ensures.0) c.loop.invariant (omega (arith, c.loop-test.true)), next_here _ _ _ _ _ _ _ _ _ _ _ _ _ (moves _ _ _ c.off_x-ox.ensures.0 c.off_y-oy.ensures.0) c.loop.invariant (omega (arith, c.loop-test.true))))

pub returns-then-halts : goal.returns-then-halts
unfolding jump_of
returns-then-halts c = here _ _ _ _ _ _ _ _ _ _ _ (moves _ _ _ c.off_x-ox.ensures.0 c.off_y-oy.ensures.0) c.loop.invariant.going (next_free _ _ _ _ _ _ _ _ _ _ _ _ _ (moves _ _ _ c.off_x-ox.ensures.0 c.off_y-oy.ensures.0) c.loop.invariant (omega (arith, c.loop-test.true)) c.if-scene-i-ne0.false) (sym c.halts.ensures ∙ c.if-halts.true)

pub loop-preserved : goal.loop-preserved
loop-preserved c = next_on _ _ _ _ _ _ _ _ _ _ _ _ _ (moves _ _ _ c.off_x-ox.ensures.0 c.off_y-oy.ensures.0) c.loop.invariant (omega (arith, c.loop-test.true)) (omega (arith, c.price_of-step.ensures)) (next_free _ _ _ _ _ _ _ _ _ _ _ _ _ (moves _ _ _ c.off_x-ox.ensures.0 c.off_y-oy.ensures.0) c.loop.invariant (omega (arith, c.loop-test.true)) c.if-scene-i-ne0.false) (sym c.halts.ensures ∙ c.if-halts.false) _ (omega (arith, c.loop-test.true))

pub returns : goal.returns
unfolding jump_of
returns c = nothing _ _ _ _ _ _ _ _ _ _ _ (moves _ _ _ c.off_x-ox.ensures.0 c.off_y-oy.ensures.0) c.loop.invariant.going (next_out _ _ _ _ _ _ _ _ _ _ _ _ _ (moves _ _ _ c.off_x-ox.ensures.0 c.off_y-oy.ensures.0) c.loop.invariant (omega (arith, c.loop-test.false)))
