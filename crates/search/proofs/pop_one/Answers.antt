-- `search::pop_one`: the popped entry is of a node, at a cost that leaves room for an edge. Assumes nothing.
use mathlib.Core.Path.{refl, ap, sym, ◌∙◌}
use native.Mathlib.Omega.{arith}
use lib.Seq.{get_or-take}
use Rattle.search.proofs.Turns.{passed_on, pop_known, pop_backed, pop_is, pop_lent, pop_hit, pop_go, place_low}
use Rattle.search.specs.Loop.{goal_of}
use Rattle.expansion.specs.Start.{yield_of}
use Rattle.expansion.specs.Expand.{tables}
use Rattle.offers.proofs.Rounds.{done_ok, refused_no}
use Rattle.offers.specs.Search.{view}
use Rattle.search.proofs.pop_one.Goals as goal

pub bounds-work-node : goal.bounds-work-node
bounds-work-node c =
    let k = pop_known c.requires.0 c.requires.1.1.1.1 c.requires.1.1.1.0 c.requires.1.1.0 _ c.pop-e.ensures.0 in
    omega (arith, k.0, c.requires.0.counted, c.requires.0.place_long)

pub at_goal-requires : goal.at_goal-requires
at_goal-requires c =
    let k = pop_known c.requires.0 c.requires.1.1.1.1 c.requires.1.1.1.0 c.requires.1.1.0 _ c.pop-e.ensures.0 in
    (c.requires.1.1.0, place_low c.requires.0 c.pop-e.result.index k.0)

pub returns-then-at_goal-clause-popped : goal.returns-then-at_goal-clause-popped
returns-then-at_goal-clause-popped c =
    let k = pop_known c.requires.0 c.requires.1.1.1.1 c.requires.1.1.1.0 c.requires.1.1.0 _ c.pop-e.ensures.0 in
    let q = pop_is c.args.work.now _ c.pop-e.ensures.1 in
    pop_hit (yield_of (tables c.args.blocked.now c.args.neighbours.now c.args.forced.now c.args.goals.now) c.args.p) (goal_of c.args.goals.now c.args.p) _ _ (view c.args.work.now) _ c.pop-e.ensures.0 c.cost_of-cost.ensures q (ap (goal_of c.args.goals.now c.args.p) (get_or-take c.args.work.now.count c.args.work.now.place.now c.pop-e.result.index 0 k.0) ∙ sym c.at_goal.ensures ∙ c.if-at_goal.true)

pub visit-requires : goal.visit-requires
visit-requires c =
    let k = pop_known c.requires.0 c.requires.1.1.1.1 c.requires.1.1.1.0 c.requires.1.1.0 _ c.pop-e.ensures.0 in
    let q = pop_is c.args.work.now _ c.pop-e.ensures.1 in
    let l = pop_lent c.requires.0 c.requires.1.1.1.1 c.requires.1.1.1.0 _ q (record { number = (refl, refl); place = (refl, refl); parent = (refl, refl); cost = (refl, refl); keys = (refl, c.pop-e.auto.keys); idx = (refl, c.pop-e.auto.idx) }) in
    (l, (c.requires.1.0, (c.requires.1.1.0.start, (k.0, ((λ z. let b = pop_backed c.requires.0 c.requires.1.1.1.1 c.requires.1.1.1.0 _ k.0 z in record { back = b.back; landed = b.landed }), omega (arith, k.1, c.cost_of-cost.ensures))))))

pub returns-in_err-visit-clause-popped : goal.returns-in_err-visit-clause-popped
returns-in_err-visit-clause-popped c =
    let k = pop_known c.requires.0 c.requires.1.1.1.1 c.requires.1.1.1.0 c.requires.1.1.0 _ c.pop-e.ensures.0 in
    let q = pop_is c.args.work.now _ c.pop-e.ensures.1 in
    rw (passed_on c.from_residual.result c.in_err-visit.field-0.0 c.from_residual.ensures.1)
    (pop_go (yield_of (tables c.args.blocked.now c.args.neighbours.now c.args.forced.now c.args.goals.now) c.args.p) (goal_of c.args.goals.now c.args.p) _ _ (view c.args.work.now) _ c.pop-e.ensures.0 c.cost_of-cost.ensures q _ (ap (goal_of c.args.goals.now c.args.p) (get_or-take c.args.work.now.count c.args.work.now.place.now c.pop-e.result.index 0 k.0) ∙ sym c.at_goal.ensures ∙ c.if-at_goal.false) (refused_no _ _ c.visit.new.work _ c.visit.ensures.visited c.in_err-visit.was))

pub returns-clause-popped : goal.returns-clause-popped
returns-clause-popped c =
    let k = pop_known c.requires.0 c.requires.1.1.1.1 c.requires.1.1.1.0 c.requires.1.1.0 _ c.pop-e.ensures.0 in
    let q = pop_is c.args.work.now _ c.pop-e.ensures.1 in
    pop_go (yield_of (tables c.args.blocked.now c.args.neighbours.now c.args.forced.now c.args.goals.now) c.args.p) (goal_of c.args.goals.now c.args.p) _ _ (view c.args.work.now) _ c.pop-e.ensures.0 c.cost_of-cost.ensures q _ (ap (goal_of c.args.goals.now c.args.p) (get_or-take c.args.work.now.count c.args.work.now.place.now c.pop-e.result.index 0 k.0) ∙ sym c.at_goal.ensures ∙ c.if-at_goal.false) (done_ok _ _ c.visit.new.work _ c.visit.ensures.visited c.in_ok-visit.was)
