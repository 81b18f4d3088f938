-- `trails::write_route` meets its contract: the steps counted are the length of the route. Assumes nothing.
use Prim.Native.Nat.{ℕ, ◌/◌, ◌<◌, ◌≤◌}
use mathlib.Core.Path.{subst}
use borrow.Author.Tests.{lt-ltb, le-ltb}
use lib.ListN.{length}
use Rattle.trails.specs.Trail.{wrote_of, left_in}
use Rattle.trails.proofs.write_route.Goals as goal

pub returns-then-out-n : goal.returns-then-out-n
unfolding wrote_of left_in
returns-then-out-n c =
    let h = lt-ltb (length c.args.out.now / 2) _ (subst (λ (x : ℕ). length c.args.out.now / 2 < x) c.steps-n.ensures.0 c.if-out-n.true) in
    (rw h, rw h)

pub returns : goal.returns
unfolding wrote_of left_in
returns c =
    let h = le-ltb (length c.args.out.now / 2) _ (subst (λ (x : ℕ). x ≤ length c.args.out.now / 2) c.steps-n.ensures.0 c.if-out-n.false) in
    (rw (h, c.steps-n.ensures.0), rw h c.write.ensures)
