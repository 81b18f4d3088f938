-- `costs::distance_between` meets its contract: the machine's differences of coordinates in range are the plain ones. Assumes nothing.
use Rattle.std.proofs.Common.{◌≡◌, ℕ, ◌≤◌, nat_abs, sym, ap, ◌∙◌, subst}
use Rattle.points.proofs.Signed.{parts, reads, diff_read}
use Rattle.costs.specs.Cost.{cost_of, dist_of, farthest}
use Rattle.costs.proofs.Bounds.{dist_le}
use Rattle.costs.proofs.distance_between.Goals as goal

pub gap-dy-requires : goal.gap-dy-requires
gap-dy-requires c = (reads c.args.a.y (parts c.args.a c.requires.0).1, reads c.args.b.y (parts c.args.b c.requires.1).1)

pub returns : goal.returns
unfolding dist_of
returns c =
    let p = parts c.args.a c.requires.0 in
    let q = parts c.args.b c.requires.1 in
    let x = c.gap-dx.ensures.0 ∙ ap nat_abs (diff_read c.args.a.x c.args.b.x p.0 q.0) in
    let y = c.gap-dy.ensures.0 ∙ ap nat_abs (diff_read c.args.a.y c.args.b.y p.1 q.1) in
    let e : c.cost.result ≡ dist_of c.args.diagonal c.args.a c.args.b = c.cost.ensures ∙ (λ i. cost_of c.args.diagonal (x i) (y i)) in
    (e, subst (λ (n : ℕ). n ≤ farthest) (sym e) (dist_le c.args.diagonal c.args.a c.args.b c.requires.0 c.requires.1))
