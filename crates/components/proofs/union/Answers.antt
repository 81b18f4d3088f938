-- `components::union` meets its contract: the two calls halve the ways to the roots, and the link is `united`'s own. Assumes nothing.
use native.Mathlib.Omega.{arith}
use Rattle.components.proofs.Roots
use Rattle.components.proofs.union.Goals as goal

pub returns-then-x-y : goal.returns-then-x-y
returns-then-x-y c =
    let s = c.args in
    Roots.ran_one s.parent.now s.rank.now s.x s.y c.if-x-y.true

pub find_mut-b-requires : goal.find_mut-b-requires
find_mut-b-requires c = (rw c.find_mut-a.ensures.1 (Roots.weaken 255 (omega arith) (Roots.halve_legal c.requires.0 (omega arith) c.args.x c.requires.2)), c.requires.3)

pub returns-then-a-b : goal.returns-then-a-b
returns-then-a-b c =
    Roots.ran_same c.requires.0 (omega arith) c.args.x c.args.y c.find_mut-a.result c.find_mut-b.result c.requires.2 c.requires.3
    c.find_mut-a.ensures.0 c.find_mut-a.ensures.1 c.find_mut-b.ensures.0 c.find_mut-b.ensures.1 c.if-x-y.false c.if-a-b.true

pub link-requires-clause-a_bound : goal.link-requires-clause-a_bound
link-requires-clause-a_bound c =
    let i = Roots.ran_in c.requires.0 (omega arith) c.args.x c.args.y c.find_mut-a.result c.find_mut-b.result c.requires.2 c.requires.3
    c.find_mut-a.ensures.0 c.find_mut-a.ensures.1 c.find_mut-b.ensures.0 c.find_mut-b.ensures.1 in
    omega (arith, i, c.requires.0.in_p, c.requires.0.in_k, c.requires.0.low c.find_mut-a.result i.0, c.requires.1)

pub link-requires-clause-a_in_bounds : goal.link-requires-clause-a_in_bounds
link-requires-clause-a_in_bounds c =
    let i = Roots.ran_in c.requires.0 (omega arith) c.args.x c.args.y c.find_mut-a.result c.find_mut-b.result c.requires.2 c.requires.3
    c.find_mut-a.ensures.0 c.find_mut-a.ensures.1 c.find_mut-b.ensures.0 c.find_mut-b.ensures.1 in
    omega (arith, i, c.requires.0.in_p, c.requires.0.in_k, c.requires.0.low c.find_mut-a.result i.0, c.requires.1)

pub returns : goal.returns
returns c =
    Roots.ran_linked c.requires.0 (omega arith) c.args.x c.args.y c.find_mut-a.result c.find_mut-b.result c.requires.2 c.requires.3
    c.find_mut-a.ensures.0 c.find_mut-a.ensures.1 c.find_mut-b.ensures.0 c.find_mut-b.ensures.1 c.if-x-y.false c.if-a-b.false
    c.link.new.parent c.link.new.rank c.link.ensures.0 c.link.ensures.1
