-- `expansion::expand` and `expansion::follow` meet their contracts. Assumes nothing.
use mathlib.Core.Path.{◌≡◌, ap, sym, ◌∙◌}
use native.Mathlib.Omega.{arith}
use Rattle.bends.specs.Bends.{way_of}
use Rattle.headings.specs.Headings.{heading_of}
use Rattle.goals.specs.Goals.{most_side}
use Rattle.offers.specs.Search.{out_of, view}
use Rattle.offers.proofs.Rounds.{passed_on, round_start}
use Rattle.jumps.proofs.Found.{Landed, jump_found}
use Rattle.expansion.specs.Expand.{tables}
use Rattle.expansion.proofs.Laws.{found_none, found_more, found_give, reached_none, expand_same}
use Rattle.expansion.proofs.Turns.{faced, finished, halted, turned, skipped}
use Rattle.expansion.proofs.+expand_follow.Goals as goal

pub expand-returns-in_default-clause-expanded : goal.expand-returns-in_default-clause-expanded
expand-returns-in_default-clause-expanded t c = expand_same _ _ _ _ _ _ _ (ap way_of (sym c.in_default.is ∙ c.direction_between.ensures ∙ ap (heading_of c.args.above) c.spot-here.ensures))

pub expand-loop-e-init : goal.expand-loop-e-init
expand-loop-e-init t c =
    let f = faced (tables c.args.blocked.now c.args.neighbours.now c.args.forced.now c.args.goals.now) c.args.p c.args.above c.args.node _ _ c.way-travel.result _ _ _ _ c.spot-here.ensures c.direction_between.ensures c.in-Ok.is c.way-travel.ensures c.byte-around.ensures c.pruned_mask-mask.ensures c.price_of-price.ensures in
    (skipped _ _ _ _ _ _ _ _ _ _ f _ _ _ _ c.next_of-e.ensures.0 (round_start _ _ _ _ c.requires.lent), c.next_of-e.ensures.1)

pub expand-returns-in_err-follow-clause-expanded : goal.expand-returns-in_err-follow-clause-expanded
expand-returns-in_err-follow-clause-expanded t c =
    let f = faced (tables c.args.blocked.now c.args.neighbours.now c.args.forced.now c.args.goals.now) c.args.p c.args.above c.args.node _ _ c.way-travel.result _ _ _ _ c.spot-here.ensures c.direction_between.ensures c.in-Ok.is c.way-travel.ensures c.byte-around.ensures c.pruned_mask-mask.ensures c.price_of-price.ensures in
    rw (passed_on c.from_residual.result c.in_err-follow.field-0.0 c.from_residual.ensures.1) (halted _ _ _ _ _ _ _ _ _ _ f _ _ _ c.loop-e.invariant.0 c.loop-e-test.true (c.loop-e.invariant.1 c.loop-e-test.true) c.follow.new.work _ c.follow.ensures.followed _ c.in_err-follow.was)

pub expand-loop-e-preserved : goal.expand-loop-e-preserved
expand-loop-e-preserved t c =
    let f = faced (tables c.args.blocked.now c.args.neighbours.now c.args.forced.now c.args.goals.now) c.args.p c.args.above c.args.node _ _ c.way-travel.result _ _ _ _ c.spot-here.ensures c.direction_between.ensures c.in-Ok.is c.way-travel.ensures c.byte-around.ensures c.pruned_mask-mask.ensures c.price_of-price.ensures in (
      skipped _ _ _ _ _ _ _ _ _ _ f _ _ _ _ c.next_of-e-in-loop-e.ensures.0
          (turned _ _ _ _ _ _ _ _ _ _ f _ _ _ c.loop-e.invariant.0 c.loop-e-test.true (c.loop-e.invariant.1 c.loop-e-test.true) c.follow.new.work _ c.follow.ensures.followed c.requires _ c.in_ok-follow.was c.follow.ensures.stays),
      c.next_of-e-in-loop-e.ensures.1,
    )

pub expand-returns-clause-expanded : goal.expand-returns-clause-expanded
expand-returns-clause-expanded t c =
    let f = faced (tables c.args.blocked.now c.args.neighbours.now c.args.forced.now c.args.goals.now) c.args.p c.args.above c.args.node _ _ c.way-travel.result _ _ _ _ c.spot-here.ensures c.direction_between.ensures c.in-Ok.is c.way-travel.ensures c.byte-around.ensures c.pruned_mask-mask.ensures c.price_of-price.ensures in
    finished _ _ _ _ _ _ _ _ _ _ f _ _ _ c.loop-e.invariant.0 c.loop-e-test.false

pub follow-overflow_add-cost : goal.follow-overflow_add-cost
follow-overflow_add-cost t c =
    let q = c.requires in
    let l = jump_found _ _ _ _ most_side _ _ _ _ _ q.0.floors.sized.wide q.0.floors.sized.high q.0.inside q.1.1.1 (sym (sym c.in-Some.is ∙ c.jump_along.ensures)) in
    omega (arith, l.most, q.0.cheap)

pub follow-again-requires : goal.follow-again-requires
follow-again-requires t c =
    let q = c.requires in
    let l = jump_found _ _ _ _ most_side _ _ _ _ _ q.0.floors.sized.wide q.0.floors.sized.high q.0.inside q.1.1.1 (sym (sym c.in-Some.is ∙ c.jump_along.ensures)) in
    (q.0.floors.sized_forced, (q.0.lent.aimed, (q.0.floors.marked, l.inside)))

pub follow-returns-then-depth-eq0-clause-followed : goal.follow-returns-then-depth-eq0-clause-followed
follow-returns-then-depth-eq0-clause-followed t c = found_none _ _ _ _ _ _ _ _ _ _ _ (sym c.in-Some.is ∙ c.jump_along.ensures) _ c.again.ensures c.if-depth-eq0.true c.if-again.true

pub follow-expand-requires : goal.follow-expand-requires
follow-expand-requires t c =
    let q = c.requires in
    let l = jump_found _ _ _ _ most_side _ _ _ _ _ q.0.floors.sized.wide q.0.floors.sized.high q.0.inside q.1.1.1 (sym (sym c.in-Some.is ∙ c.jump_along.ensures)) in
    let m = c.if-depth-eq0.false in
    let r = q.0 in
    (omega (arith, m), record { floors = r.floors; lent = r.lent; seen = r.seen; inside = l.inside; known = r.known; cheap = omega (arith, r.cheap, l.most, m) })

pub follow-returns-then-again-clause-followed : goal.follow-returns-then-again-clause-followed
follow-returns-then-again-clause-followed t c = found_more _ _ _ _ _ _ _ _ _ _ _ (sym c.in-Some.is ∙ c.jump_along.ensures) _ c.again.ensures _ c.if-depth-eq0.false c.if-again.true c.expand.ensures.expanded

pub follow-give-requires : goal.follow-give-requires
follow-give-requires t c =
    let q = c.requires in
    let l = jump_found _ _ _ _ most_side _ _ _ _ _ q.0.floors.sized.wide q.0.floors.sized.high q.0.inside q.1.1.1 (sym (sym c.in-Some.is ∙ c.jump_along.ensures)) in
    let r = q.0 in
    (r.lent, (l.inside, (r.known, omega (arith, l.most, r.cheap))))
