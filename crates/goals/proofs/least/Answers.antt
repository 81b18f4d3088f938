-- `goals::least` meets its contract: after i turns it is the least of the first i. Assumes nothing.
use Rattle.std.proofs.Common.{◌≡◌, ℕ, min, ap, ◌∙◌, arith}
use Rattle.costs.specs.Cost.{dist_of}
use Rattle.goals.specs.Goals.{least_to, point_at}
use Rattle.goals.proofs.Walks.{legal_of, least_next, least_first}
use Rattle.goals.proofs.least.Goals as goal

pub distance_between-best-requires : goal.distance_between-best-requires
distance_between-best-requires c = (c.requires.1.1, legal_of c.args.goals.now c.args.n 0 c.point_at.result c.requires.1.0 c.requires.0 c.point_at.ensures)

pub distance_between-requires : goal.distance_between-requires
distance_between-requires c = (c.requires.1.1, legal_of c.args.goals.now c.args.n c.loop-i.i c.point_at-in-loop-i.result c.requires.1.0 c.loop-i-test.true c.point_at-in-loop-i.ensures)

pub loop-i-init : goal.loop-i-init
unfolding point_at
loop-i-init c =
    let a = c.args in
    (c.distance_between-best.ensures.0 ∙ ap (dist_of a.diagonal a.at) c.point_at.ensures ∙ least_first a.goals.now a.diagonal a.at, c.distance_between-best.ensures.1)

pub loop-i-preserved : goal.loop-i-preserved
unfolding point_at
loop-i-preserved c =
    let a = c.args in
    let e = c.distance_between.ensures.0 ∙ ap (dist_of a.diagonal a.at) c.point_at-in-loop-i.ensures in
    (c.min-best.ensures ∙ (λ j. min (c.loop-i.invariant.0 j) (e j)) ∙ least_next a.goals.now a.n c.loop-i.i a.diagonal a.at, omega (arith, c.min-best.ensures, c.loop-i.invariant.1))

pub returns : goal.returns
unfolding point_at
returns c =
    let e : c.loop-i.i ≡ c.args.n = omega (arith, c.requires.0, c.loop-i.auto.i-end) in
    (c.loop-i.invariant.0 ∙ ap (λ (n : ℕ). least_to c.args.goals.now c.args.diagonal c.args.at n) e, c.loop-i.invariant.1)
