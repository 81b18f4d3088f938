-- `route::route_from` is safe: what is printed fits the room that was lent. Assumes nothing.
use Rattle.std.proofs.Common.{ℕ, ◌≤◌, length, length-take-le, sym, arith}
use Rattle.std.proofs.lemmas.List.{length-replicate}
use Rattle.router.proofs.Short.{within}
use Rattle.route.proofs.route_from.Goals as goal

pub slice_bounds-out-end : goal.slice_bounds-out-end
slice_bounds-out-end g c = within _ _ _ _ c.route_text-n.ensures (omega (arith, length-replicate {A = ℕ} 82100 0))

pub slice_bounds-write_all-end : goal.slice_bounds-write_all-end
slice_bounds-write_all-end g c =
    let fits : c.route_text-n.result ≤ length c.route_text-n.new.out = within _ _ _ _ c.route_text-n.ensures (omega (arith, length-replicate {A = ℕ} 82100 0)) in
    sym (length-take-le c.route_text-n.result c.route_text-n.new.out fits)
